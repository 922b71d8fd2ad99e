-- Lines put in a loop, each as it was written: what is there and what is left make the whole.
use mathlib.Core.Path.{◌≡◌, refl, ◌∙◌}
use mathlib.Core.List.{List, ◌++◌, flat_map}
use Prim.Native.Nat.{ℕ, ◌+◌, ◌-◌, ◌<◌, ◌≤◌}
use native.Mathlib.Omega.{arith}
use lib.ListN.{length, get_or, take, drop, length-drop}
use lib.Seq.{get_or-take, get_or-drop, length-take-le}
use Rattle.paper.specs.Filled.{written_line}
use Rattle.file_fields.specs.Fields.{nowhere_at, field_of, between}
use Rattle.file_fields.specs.Stretches.{stretch_of}
use Rattle.file_fields.specs.declared.file.FieldAt.{FieldAt}
use Rattle.file_fields.specs.declared.stretch.Stretch.{Stretch}
use Rattle.file_fields.proofs.Between.{between_more, between_none}
use Rattle.filled_lines.specs.Sinks.{SinkLaws}
use Rattle.filled_lines.proofs.Sinks.{Putting, begin, finish, room, more}

-- the lines of the first i fields of a stretch are there
pub record Written {S : Type 0} (Fits : S → List ℕ → Type 0) (Put : S → List ℕ → S → Type 0) (fields : Stretch) (i : ℕ) (s m : S) : Type 0 where
  pub within : i ≤ fields.to - fields.from
  pub putting : Putting Fits Put (flat_map written_line (stretch_of fields))
      (flat_map written_line (between fields.file.text.now fields.file.fields.now (fields.from + i) fields.to)) s m

module _ {S : Type 0} {Fits : S → List ℕ → Type 0} {Put : S → List ℕ → S → Type 0} (laws : SinkLaws Fits Put) (fields : Stretch) (s : S) where
  pub lines_begin : Fits s (flat_map written_line (stretch_of fields)) → Written Fits Put fields 0 s s
  lines_begin h =
      let z : fields.from + 0 ≡ fields.from = omega arith in
      record { within = omega arith; putting = rw z (begin laws _ _ s refl h) }

  module _ (xs : List FieldAt) (e : xs ≡ take (fields.to - fields.from) (drop fields.from fields.file.fields.now)) where
    size : length xs ≡ fields.to - fields.from
    size = rw e (length-take-le (fields.to - fields.from) (drop fields.from fields.file.fields.now) (omega (arith, length-drop fields.from fields.file.fields.now, fields.listed)))

    module _ (i : ℕ) (m : S) (w : Written Fits Put fields i s m) where
      pub lines_done : length xs ≤ i → Put s (flat_map written_line (stretch_of fields)) m
      unfolding flat_map
      lines_done h =
          finish laws w.putting (rw (between_none fields.file.text.now fields.file.fields.now (fields.from + i) fields.to (omega (arith, size, fields.ordered))) refl)

      module _ (h : i < length xs) where
        here : get_or xs i nowhere_at ≡ get_or fields.file.fields.now (fields.from + i) nowhere_at
        here =
            rw e (get_or-take (fields.to - fields.from) (drop fields.from fields.file.fields.now) i nowhere_at (omega (arith, size))
            ∙ get_or-drop fields.from fields.file.fields.now i nowhere_at)

        line_next : flat_map written_line (between fields.file.text.now fields.file.fields.now (fields.from + i) fields.to)
            ≡ written_line (field_of fields.file.text.now (get_or xs i nowhere_at))
            ++ flat_map written_line (between fields.file.text.now fields.file.fields.now (fields.from + (i + 1)) fields.to)
        unfolding flat_map
        line_next =
            let q : fields.from + (i + 1) ≡ fields.from + i + 1 = omega arith in
            rw (
              q,
              here,
              between_more fields.file.text.now fields.file.fields.now (fields.from + i) fields.to (omega (arith, size)),
            ) refl

        pub line_room : Fits m (written_line (field_of fields.file.text.now (get_or xs i nowhere_at)))
        line_room = room laws w.putting _ _ line_next

        pub lines_again : (n : S) → Put m (written_line (field_of fields.file.text.now (get_or xs i nowhere_at))) n → Written Fits Put fields (i + 1) s n
        lines_again n v = record { within = omega (arith, size); putting = more laws w.putting _ _ line_next n v }
