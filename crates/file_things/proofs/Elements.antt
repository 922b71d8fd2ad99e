-- The elements of a list written one behind the other.
use mathlib.Core.Path.{◌≡◌, refl}
use mathlib.Core.Bool.{Bool, true, false, cond}
use mathlib.Core.List.{List, [], ◌++◌, map}
use Prim.Native.Nat.{ℕ, ◌+◌, ◌-◌, ◌*◌, ◌^◌, ◌<◌, ◌≤◌}
use native.Mathlib.Omega.{arith}
use mir.Syntax.{w64}
use mir.Val.{Fits}
use lib.ListN.{length, take, drop, length-take, length-drop}
use Rattle.paper.specs.Common.{is_empty, cut}
use Rattle.paper.specs.Text.{comma}
use Rattle.paper.specs.Lists.{unspaced, elements_in}
use Rattle.laws.proofs.Counting.{all_of_append_left, all_of_append_right}
use Rattle.text_lists.specs.Walk.{first_element, element_at, elements_left, SpacedFrom}
use Rattle.std.specs.Prelude.{Option, Some, None}
use Rattle.text_lists.specs.declared.Element.{Element}
use Rattle.text_lists.proofs.Walk.{spaced_at_first, left_first, left_none, left_found, found_at, found_from, found_to_lem}
use Rattle.file_fields.specs.Fields.{value_of, field_of, well_spaced}
use Rattle.file_fields.specs.declared.file.FieldAt.{FieldAt}
use Rattle.file_fields.specs.Values.{inside_of}
use Rattle.file_fields.proofs.Valued.{inside_elements, inside_spaced}
use Rattle.filled_lines.specs.Wrote.{Wrote}
use Rattle.filled_lines.proofs.Writing.{left, over, Writing, begin, start, same, finish, room, fits, more}
use Rattle.file_things.specs.Things.{thing, element_things, each_thing}
use Rattle.file_things.specs.Writable.{is_small, AllSmall, Writable}
use Rattle.file_things.proofs.Things.{start_small}

-- what is asked of the next words, of those that are left to be written
pub next_asked : {whole rest old out : List ℕ} {at : ℕ} → Writing whole rest old out at → (x others : List ℕ) → rest ≡ x ++ others → Writable whole old
    → Writable x (left out at)
next_asked {whole} {rest} w x others e a =
    let s : AllSmall (w.front ++ (x ++ others)) = rw (← e, ← w.joins) a.small in
    record { room = room w x others e; small = all_of_append_left is_small x others (all_of_append_right is_small w.front (x ++ others) s) }

-- the things of the elements from a place on; what is between the brackets starts behind the first of them
abbrev pub elements_from : ℕ → ℕ → ℕ → List ℕ → ℕ → List ℕ
elements_from kind line start s at = element_things kind line (start + 1 + at) (elements_left s at)

abbrev pub ElementsWritten : List ℕ → FieldAt → ℕ → List ℕ → ℕ → ℕ → ℕ → List ℕ → List ℕ → ℕ → Type 0
ElementsWritten t field kind s line start at old out end = Writing (each_thing kind (field_of t field)) (elements_from kind line start s at) old out end

-- where there is none it does not matter where the first starts
first_start : (kind line from : ℕ) (s : List ℕ) → element_things kind line (from + first_element s) (elements_in s) ≡ element_things kind line from (elements_in s)
unfolding elements_in element_things
first_start kind line from s = go (is_empty s) (map unspaced (cut comma s))
  where
    go : (b : Bool) (es : List (List ℕ)) → element_things kind line (from + cond b 1 0) (cond b [] es) ≡ element_things kind line from (cond b [] es)
    go true es = refl
    go false es = let e : from + 0 ≡ from = omega arith in rw e refl

module _ (t : List ℕ) (field : FieldAt) (kind : ℕ) (v s : List ℕ) (line from at : ℕ) (old : List ℕ) where
  pub elements_begin : line ≡ field.line → from ≡ field.start → v ≡ value_of t field → s ≡ inside_of v → at ≡ first_element s
      → Writable (each_thing kind (field_of t field)) old → ElementsWritten t field kind s line from at old old 0
  unfolding each_thing field_of
  elements_begin a b d e h asked =
      let q : each_thing kind (field_of t field) ≡ elements_from kind line from s at =
      rw (h, left_first s, first_start kind line (from + 1) s, e, inside_elements v, d, a, b) refl in
      begin (each_thing kind (field_of t field)) (elements_from kind line from s at) old q asked.room

  pub elements_spaced : v ≡ value_of t field → s ≡ inside_of v → at ≡ first_element s → well_spaced (field_of t field) ≡ true → SpacedFrom s at
  unfolding well_spaced field_of
  elements_spaced d e h k = spaced_at_first s at h (rw e (inside_spaced v (rw d k)))

module _ (t : List ℕ) (field : FieldAt) (kind : ℕ) (s : List ℕ) (line from at : ℕ) (old out : List ℕ) (end : ℕ)
    (w : ElementsWritten t field kind s line from at old out end) where
  pub elements_start : end ≤ length out
  elements_start = start w

  pub elements_bytes : length out * 4 < 2 ^ 63 → Fits w64 (end * 4)
  elements_bytes l = omega (arith, start w)

  pub elements_length : length out ≡ length old
  elements_length = same w

  module _ (r : Option Element) (o : r ≡ element_at s at) where
    pub elements_done : r ≡ None → Wrote (each_thing kind (field_of t field)) old out end
    unfolding element_things
    elements_done z = finish w (rw (left_none s at r o z) refl)

    module _ (f : Element) (z : r ≡ Some f) where
      pub found_ordered : at ≤ f.end
      found_ordered = found_from s at r o f z

      module _ (k : SpacedFrom s at) where
        element_next : elements_from kind line from s at ≡ thing kind line (from + 1 + at) (f.end - at) ++ elements_from kind line from s f.next
        unfolding element_things
        element_next =
            let g = found_at s at r o f z in
            let a : length (take (f.end - at) (drop at s)) ≡ f.end - at = rw length-take (omega (arith, length-drop at s, found_to_lem s at r o f z)) in
            let b : from + 1 + at + (f.end - at) + 2 ≡ from + 1 + f.next = omega (arith, g.next_is, found_from s at r o f z) in
            rw (left_found s at r o f z k, a, b) refl

        pub element_asked : Writable (each_thing kind (field_of t field)) old → Writable (thing kind line (from + 1 + at) (f.end - at)) (left out end)
        element_asked a = next_asked w (thing kind line (from + 1 + at) (f.end - at)) (elements_from kind line from s f.next) element_next a

        pub element_starts : Writable (each_thing kind (field_of t field)) old → Fits w64 (from + 1)
        element_starts a = omega (arith, start_small kind line (from + 1 + at) (f.end - at) (left out end) (element_asked a))

        pub element_stands : Writable (each_thing kind (field_of t field)) old → Fits w64 (from + 1 + at)
        element_stands a = omega (arith, start_small kind line (from + 1 + at) (f.end - at) (left out end) (element_asked a))

        module _ (ys : List ℕ) (b : ℕ) (v : Wrote (thing kind line (from + 1 + at) (f.end - at)) (left out end) ys b) where
          pub element_fits_lem : length old * 4 < 2 ^ 63 → Fits w64 (end + b)
          element_fits_lem l = fits w (thing kind line (from + 1 + at) (f.end - at)) (elements_from kind line from s f.next) element_next ys b v (omega arith)

          pub element_more : ElementsWritten t field kind s line from f.next old (over out end ys) (end + b)
          element_more = more w (thing kind line (from + 1 + at) (f.end - at)) (elements_from kind line from s f.next) element_next ys b v
