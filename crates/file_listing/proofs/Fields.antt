-- The things of a file written field by field.
use mathlib.Core.Path.{◌≡◌, refl}
use mathlib.Core.List.{List, ◌++◌}
use Prim.Native.Nat.{ℕ, ◌+◌, ◌*◌, ◌^◌, ◌<◌, ◌≤◌}
use native.Mathlib.Omega.{arith}
use mir.Syntax.{w64}
use mir.Val.{Fits}
use lib.ListN.{length}
use Rattle.file_fields.specs.Fields.{field_at, between}
use Rattle.file_fields.specs.declared.file.FieldAt.{FieldAt}
use Rattle.file_fields.proofs.Between.{between_more, between_none}
use Rattle.filled_lines.specs.Wrote.{Wrote}
use Rattle.filled_lines.proofs.Writing.{left, over, Writing, begin, start, same, finish, fits, more}
use Rattle.file_things.specs.Things.{things_in, things_of}
use Rattle.file_things.specs.Writable.{Writable, behind_in}
use Rattle.file_things.proofs.Elements.{next_asked}

-- the things of the fields before number i are there
abbrev pub ThingsWritten : List ℕ → List FieldAt → ℕ → ℕ → List ℕ → List ℕ → ℕ → Type 0
ThingsWritten t list n i old out at = Writing (things_of (between t list 0 n)) (things_of (between t list i n)) old out at

module _ (t : List ℕ) (list : List FieldAt) (n : ℕ) (old : List ℕ) where
  pub things_begin : Writable (things_of (between t list 0 n)) old → ThingsWritten t list n 0 old old 0
  things_begin a = begin (things_of (between t list 0 n)) (things_of (between t list 0 n)) old refl a.room

  module _ (i : ℕ) (out : List ℕ) (at : ℕ) (w : ThingsWritten t list n i old out at) where
    pub things_start : at ≤ length out
    things_start = start w

    pub things_bytes : length out * 4 < 2 ^ 63 → Fits w64 (at * 4)
    things_bytes l = omega (arith, start w)

    pub things_length : length out ≡ length old
    things_length = same w

    pub things_done : n ≤ i → Wrote (things_of (between t list 0 n)) old out at
    unfolding things_of
    things_done h = finish w (rw (between_none t list i n h) refl)

    module _ (h : i < n) where
      -- those of field i
      abbrev own : List ℕ
      own = things_in (field_at t list i) (behind_in t list i n)

      field_next : things_of (between t list i n) ≡ own ++ things_of (between t list (i + 1) n)
      unfolding things_of
      field_next = rw (between_more t list i n h) refl

      pub field_asked : Writable (things_of (between t list 0 n)) old → Writable (things_in (field_at t list i) (behind_in t list i n)) (left out at)
      field_asked a = next_asked w own (things_of (between t list (i + 1) n)) field_next a

      module _ (ys : List ℕ) (b : ℕ) (v : Wrote (things_in (field_at t list i) (behind_in t list i n)) (left out at) ys b) where
        pub field_fits : length old * 4 < 2 ^ 63 → Fits w64 (at + b)
        field_fits l = fits w own (things_of (between t list (i + 1) n)) field_next ys b v (omega arith)

        pub field_more : ThingsWritten t list n (i + 1) old (over out at ys) (at + b)
        field_more = more w own (things_of (between t list (i + 1) n)) field_next ys b v
