-- The walk over a list's elements: one step of it, where the list is spaced as it should be.
use mathlib.Core.Path.{◌≡◌, refl, sym, ap, ◌∙◌}
use mathlib.Core.Bool.{Bool, true, false, cond, beq}
use mathlib.Core.List.{List, [], ◌∷◌, map}
use mathlib.Core.Logic.{dite}
use Prim.Native.Nat.{ℕ, suc, ◌+◌, ◌-◌, ◌*◌, ◌^◌, ◌<◌, ◌≤◌}
use native.Mathlib.Nat.{not-suc-le-zero}
use native.Mathlib.Decide.{dec_lt}
use native.Mathlib.Omega.{arith}
use mir.Syntax.{w64}
use mir.Val.{Fits}
use lib.Dec.{eqb, ltb}
use lib.ListN.{length, take, drop, length-drop, drop_of_length-le}
use lib.Seq.{drop-drop}
use borrow.Author.Tests.{eqb-true, ltb-true, ltb-false, eq-eqb, ne_eqb, lt-ltb, le-ltb}
use Rattle.paper.specs.Common.{cut, on_piece}
use Rattle.paper.specs.Text.{comma, space}
use Rattle.paper.specs.Lists.{spaced, unspaced, elements_in}
use Rattle.laws.specs.Pieces.{before}
use Rattle.laws.proofs.Tests.{both_left, both_right}
use Rattle.laws.proofs.Pieces.{piece_within, piece_length, piece_short, piece_behind, cut_more, cut_last, cut_some}
use Rattle.text_lists.specs.Walk.{first_element, element_to, element_at, elements_left, SpacedFrom}
use Rattle.std.specs.Prelude.{Option, Some, None}
use Rattle.text_lists.specs.declared.Element.{Element}

-- ---- in a stretch that is spaced as it should be, an element is what stands between a comma's space and the next comma

not_beq : (t : Bool) → beq false t ≡ true → t ≡ false
not_beq true e = cc
not_beq false e = refl

is_beq : (t : Bool) → beq true t ≡ true → t ≡ true
is_beq true e = refl
is_beq false e = cc

no_space_before_comma : (last : ℕ) (xs : List ℕ) → eqb last comma ≡ false → spaced last xs ≡ true → unspaced (take (before comma xs) xs) ≡ take (before comma xs) xs
unfolding before spaced unspaced
no_space_before_comma last [] n h = refl
no_space_before_comma last (b ∷ bs) n h = go (eqb b comma) refl (λ m k. no_space_before_comma b bs m k)
  where
    no_space : eqb b space ≡ false
    no_space = not_beq (eqb b space) (rw n at (both_left (beq (eqb last comma) (eqb b space)) (spaced b bs) h))

    go : (t : Bool) → eqb b comma ≡ t
        → (eqb b comma ≡ false → spaced b bs ≡ true → unspaced (take (before comma bs) bs) ≡ take (before comma bs) bs)
        → unspaced (take (cond t 0 (suc (before comma bs))) (b ∷ bs)) ≡ take (cond t 0 (suc (before comma bs))) (b ∷ bs)
    go true e ih = refl
    go false e ih = rw no_space (ap (λ (ys : List ℕ). b ∷ ys) (ih e (both_right (beq (eqb last comma) (eqb b space)) (spaced b bs) h)))

spaced_behind_comma : (last : ℕ) (xs : List ℕ) → spaced last xs ≡ true → before comma xs < length xs → spaced comma (drop (suc (before comma xs)) xs) ≡ true
unfolding before spaced
spaced_behind_comma last [] h k = absurd (not-suc-le-zero k)
spaced_behind_comma last (b ∷ bs) h k = go (eqb b comma) refl k (λ q. spaced_behind_comma b bs rest q)
  where
    rest : spaced b bs ≡ true
    rest = both_right (beq (eqb last comma) (eqb b space)) (spaced b bs) h

    go : (t : Bool) → eqb b comma ≡ t → cond t 0 (suc (before comma bs)) < suc (length bs)
        → (before comma bs < length bs → spaced comma (drop (suc (before comma bs)) bs) ≡ true)
        → spaced comma (drop (suc (cond t 0 (suc (before comma bs)))) (b ∷ bs)) ≡ true
    go true e q ih = rw (eqb-true b comma e) at rest
    go false e q ih = ih (omega arith)

-- a space, and behind it what is spaced by itself
record SpaceFirst (ys : List ℕ) : Type 0 where
  first : ys ≡ space ∷ drop 1 ys
  rest : spaced 0 (drop 1 ys) ≡ true

spaced_behind_space : (bs : List ℕ) → spaced space bs ≡ spaced 0 bs
unfolding spaced
spaced_behind_space [] = refl
spaced_behind_space (x ∷ xs) = refl

space_behind_comma : (ys : List ℕ) → spaced comma ys ≡ true → SpaceFirst ys
unfolding spaced
space_behind_comma [] h = absurd (let z : ◌≡◌ {A = ℕ} 0 1 = cc in omega arith)
space_behind_comma (b ∷ bs) h =
    let q : b ≡ space = eqb-true b space (is_beq (eqb b space) (both_left (beq true (eqb b space)) (spaced b bs) h)) in
    let p : spaced b bs ≡ true = both_right (beq true (eqb b space)) (spaced b bs) h in
    record { first = ap (λ (x : ℕ). x ∷ bs) q; rest = sym (spaced_behind_space bs) ∙ rw q at p }

without_space : (ys : List ℕ) → map unspaced (cut comma (space ∷ ys)) ≡ map unspaced (cut comma ys)
unfolding cut on_piece unspaced
without_space ys = rw (cut_some comma ys).2

module _ (s : List ℕ) (at e : ℕ) (f : e ≡ at + before comma (drop at s)) (w : at ≤ length s) (k : SpacedFrom s at) where
  element_is : unspaced (take (e - at) (drop at s)) ≡ take (e - at) (drop at s)
  element_is = rw (piece_length comma s at e f) (no_space_before_comma 0 (drop at s) refl k)

  behind : e < length s → SpaceFirst (drop (e + 1) s)
  behind h = space_behind_comma (drop (e + 1) s) (rw (piece_behind comma s at e f) at (spaced_behind_comma 0 (drop at s) k (piece_short comma s at e f h)))

  behind_space : drop 1 (drop (e + 1) s) ≡ drop (e + 2) s
  behind_space = let q : e + 1 + 1 ≡ e + 2 = omega arith in drop-drop 1 (e + 1) s ∙ ap (λ (n : ℕ). drop n s) q

  next_within : e < length s → e + 2 ≤ length s
  next_within h = let q : length (drop (e + 1) s) ≡ suc (length (drop 1 (drop (e + 1) s))) = ap length (behind h).first in omega (arith, length-drop (e + 1) s)

  spaced_next : e < length s → SpacedFrom s (e + 2)
  spaced_next h = rw behind_space at (behind h).rest

  elements_more : e < length s → map unspaced (cut comma (drop at s)) ≡ take (e - at) (drop at s) ∷ map unspaced (cut comma (drop (e + 2) s))
  elements_more h =
      ap (map unspaced) (cut_more comma s at e f h)
      ∙ ap (λ (x : List ℕ). x ∷ map unspaced (cut comma (drop (e + 1) s))) element_is
      ∙ ap (λ (ys : List (List ℕ)). take (e - at) (drop at s) ∷ ys)
      (ap (λ (ys : List ℕ). map unspaced (cut comma ys)) (behind h).first ∙ without_space (drop 1 (drop (e + 1) s)) ∙ ap (λ (ys : List ℕ). map unspaced (cut comma ys)) behind_space)

  elements_last : length s ≤ e → map unspaced (cut comma (drop at s)) ≡ take (e - at) (drop at s) ∷ []
  elements_last h = ap (map unspaced) (cut_last comma s at e f w h) ∙ ap (λ (x : List ℕ). x ∷ []) element_is

-- ---- the elements that are left at a place

pub left_past : (s : List ℕ) (at : ℕ) → length s < at → elements_left s at ≡ []
unfolding elements_left
left_past s at h = rw (lt-ltb (length s) at h)

left_within : (s : List ℕ) (at : ℕ) → at ≤ length s → elements_left s at ≡ map unspaced (cut comma (drop at s))
unfolding elements_left
left_within s at h = rw (le-ltb (length s) at h)

-- ---- the start of the walk

module _ (s : List ℕ) where
  pub first_none : length s ≡ 0 → 1 ≡ first_element s
  first_none h = rw (eq-eqb (length s) 0 h)

  pub first_some : (length s ≡ 0 → ⊥) → 0 ≡ first_element s
  first_some h = rw (ne_eqb (length s) 0 h)

  pub left_first : elements_left s (first_element s) ≡ elements_in s
  unfolding elements_in
  left_first = go (eqb (length s) 0) refl
    where
      go : (t : Bool) → eqb (length s) 0 ≡ t → elements_left s (cond t 1 0) ≡ cond t [] (map unspaced (cut comma s))
      go true e = left_past s 1 (omega (arith, eqb-true (length s) 0 e))
      go false e = left_within s 0 (omega arith)

  pub spaced_first : spaced 0 s ≡ true → SpacedFrom s (first_element s)
  unfolding spaced
  spaced_first h = go (eqb (length s) 0) refl
    where
      go : (t : Bool) → eqb (length s) 0 ≡ t → SpacedFrom s (cond t 1 0)
      go true e = let q : length s ≤ 1 = omega (arith, eqb-true (length s) 0 e) in rw (drop_of_length-le s q)
      go false e = h

  pub spaced_at_first : (at : ℕ) → at ≡ first_element s → spaced 0 s ≡ true → SpacedFrom s at
  spaced_at_first at h g = rw h (spaced_first g)

-- ---- a step of the walk, as the code takes it

module _ (s : List ℕ) (at : ℕ) where
  pub none_found : length s < at → None ≡ element_at s at
  unfolding element_at
  none_found h = rw (lt-ltb (length s) at h)

  module _ (e : ℕ) (f : e ≡ at + before comma (drop at s)) (w : at ≤ length s) where
    pub next_fits : length s * 1 < 2 ^ 63 → Fits w64 (e + 2)
    next_fits l = omega (arith, piece_within comma s at e f w)

    pub element_found : Some (element_to e) ≡ element_at s at
    unfolding element_at
    element_found = rw (le-ltb (length s) at w, f)

-- the two places of an element that is found
abbrev end_of : Option Element → ℕ
end_of None = 0
end_of (Some e) = e.end

abbrev next_of : Option Element → ℕ
next_of None = 0
next_of (Some e) = e.next

-- what an element that is found says of itself
pub record FoundAt (s : List ℕ) (at end next : ℕ) : Type 0 where
  pub within : at ≤ length s
  pub ends : end ≡ at + before comma (drop at s)
  pub next_is : next ≡ end + 2

module _ (s : List ℕ) (at : ℕ) (r : Option Element) (q : r ≡ element_at s at) where
  pub left_none : r ≡ None → elements_left s at ≡ []
  unfolding element_at
  left_none n = go (ltb (length s) at) refl q
    where
      go : (t : Bool) → ltb (length s) at ≡ t → r ≡ cond t None (Some (element_to (at + before comma (drop at s)))) → elements_left s at ≡ []
      go true p h = left_past s at (ltb-true (length s) at p)
      go false p h = absurd (let z : ◌≡◌ {A = ℕ} 0 1 = cc in omega arith)

  module _ (f : Element) (n : r ≡ Some f) where
    pub found_at : FoundAt s at f.end f.next
    unfolding element_at
    found_at = go (ltb (length s) at) refl q
      where
        go : (t : Bool) → ltb (length s) at ≡ t → r ≡ cond t None (Some (element_to (at + before comma (drop at s)))) → FoundAt s at f.end f.next
        go true p h = absurd (let z : ◌≡◌ {A = ℕ} 0 1 = cc in omega arith)
        go false p h = let e : f.end ≡ at + before comma (drop at s) = ap end_of (sym n ∙ h) in
            let m : f.next ≡ at + before comma (drop at s) + 2 = ap next_of (sym n ∙ h) in
            record { within = ltb-false (length s) at p; ends = e; next_is = rw e m }

    pub found_from : at ≤ f.end
    found_from = omega (arith, found_at.ends)

    pub found_to_lem : f.end ≤ length s
    found_to_lem = piece_within comma s at f.end found_at.ends found_at.within

    pub found_less : length s + 3 - f.next < length s + 3 - at
    found_less = omega (arith, found_at.within, found_from, found_at.next_is)

    module _ (k : SpacedFrom s at) where
      pub left_found : elements_left s at ≡ take (f.end - at) (drop at s) ∷ elements_left s f.next
      left_found = rw (left_within s at found_at.within, found_at.next_is) (dite (dec_lt f.end (length s))
          (λ (h : f.end < length s). rw (left_within s (f.end + 2) (next_within s at f.end found_at.ends found_at.within k h))
          (elements_more s at f.end found_at.ends found_at.within k h))
          (λ (h : ¬ (f.end < length s)). rw (left_past s (f.end + 2) (omega arith))
          (elements_last s at f.end found_at.ends found_at.within k (omega arith))))

      pub spaced_found : SpacedFrom s f.next
      unfolding spaced
      spaced_found = rw found_at.next_is (dite (dec_lt f.end (length s))
          (λ (h : f.end < length s). spaced_next s at f.end found_at.ends found_at.within k h)
          (λ (h : ¬ (f.end < length s)). let g : length s ≤ f.end + 2 = omega arith in rw (drop_of_length-le s g)))
