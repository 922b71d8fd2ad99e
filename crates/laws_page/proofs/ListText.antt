-- The elements of a list value determine its text: a list has one spelling.
use mathlib.Core.Path.{◌≡◌, refl, sym, ap, ◌∙◌}
use mathlib.Core.Bool.{Bool, true, false, cond, not, ◌&&◌, beq}
use mathlib.Core.List.{List, [], ◌∷◌, ◌++◌, map}
use Prim.Native.Nat.{ℕ, suc, ◌-◌, ◌<◌, ◌≤◌}
use native.Mathlib.Omega.{arith}
use lib.Dec.{eqb, leb}
use lib.ListN.{length, get_or, take}
use lib.Seq.{take-suc, take_all}
use borrow.Author.Tests.{eqb-true, leb-true, ne_eqb}
use Rattle.paper.specs.Common.{all_of, cut, on_piece}
use Rattle.paper.specs.declared.Scalar.{Scalar}
use Rattle.paper.specs.Scalars.{is_scalar}
use Rattle.paper.specs.Text.{comma, space, open_bracket, close_bracket}
use Rattle.paper.specs.Lists.{bracketed, inside, spaced, unspaced, elements_in, elements, list_fault}
use Rattle.laws.proofs.Tests.{both_left, both_right}
use Rattle.laws.proofs.Pieces.{cut_some}

-- elements behind another: a comma and a space before each
unfoldable pub text_behind : List (List ℕ) → List ℕ
text_behind [] = []
text_behind (x ∷ xs) = comma ∷ space ∷ (x ++ text_behind xs)

-- what stands between the brackets of a list with these elements
unfoldable pub text_of : List (List ℕ) → List ℕ
text_of [] = []
text_of (x ∷ xs) = x ++ text_behind xs

-- the space that is due behind a byte
unfoldable space_after : ℕ → List ℕ
space_after last = cond (eqb last comma) (space ∷ []) []

-- one byte more in front: a space behind a comma, a comma, or a byte of an element
module _ (bs : List ℕ) where
  behind_comma : text_of (map unspaced (cut comma bs)) ≡ bs → space ∷ text_of (map unspaced (cut comma (space ∷ bs))) ≡ space ∷ bs
  unfolding cut on_piece unspaced text_of
  behind_comma ih = ap (λ (ys : List ℕ). space ∷ ys) (rw (cut_some comma bs).2 (rw (cut_some comma bs).2 at ih))

  at_comma : space ∷ text_of (map unspaced (cut comma bs)) ≡ bs → text_of (map unspaced (cut comma (comma ∷ bs))) ≡ comma ∷ bs
  unfolding cut unspaced text_of text_behind
  at_comma ih = rw (cut_some comma bs).2 (ap (λ (ys : List ℕ). comma ∷ ys) (rw (cut_some comma bs).2 at ih))

  in_element : (b : ℕ) → eqb b comma ≡ false → eqb b space ≡ false → text_of (map unspaced (cut comma bs)) ≡ bs → text_of (map unspaced (cut comma (b ∷ bs))) ≡ b ∷ bs
  unfolding cut on_piece unspaced text_of
  in_element b c s ih = rw (c, (cut_some comma bs).2, s) (ap (λ (ys : List ℕ). b ∷ ys) (rw (cut_some comma bs).2 at ih))

-- what is spaced behind a byte is the space that is due there and then the elements, as they are written
text_from : (last : ℕ) (bs : List ℕ) → spaced last bs ≡ true → space_after last ++ text_of (map unspaced (cut comma bs)) ≡ bs
unfolding spaced space_after cut unspaced text_of text_behind
text_from last [] h = go (eqb last comma) h
  where
    go : (t : Bool) → not t ≡ true → cond t (space ∷ []) [] ++ [] ≡ []
    go true k = absurd (let z : ◌≡◌ {A = ℕ} 0 1 = cc in omega arith)
    go false k = refl
text_from last (b ∷ bs) h =
    go (eqb last comma) (eqb b comma) (eqb b space) refl refl (both_left (beq (eqb last comma) (eqb b space)) (spaced b bs) h)
    (text_from b bs (both_right (beq (eqb last comma) (eqb b space)) (spaced b bs) h))
  where
    go : (l c s : Bool) → eqb b comma ≡ c → eqb b space ≡ s → beq l s ≡ true → cond c (space ∷ []) [] ++ text_of (map unspaced (cut comma bs)) ≡ bs
        → cond l (space ∷ []) [] ++ text_of (map unspaced (cut comma (b ∷ bs))) ≡ b ∷ bs
    go true true true p q k ih = absurd (let z : b ≡ space = eqb-true b space q in omega (arith, eqb-true b comma p))
    go true false true p q k ih = let z : b ≡ space = eqb-true b space q in rw z (behind_comma bs ih)
    go false true false p q k ih = let z : b ≡ comma = eqb-true b comma p in rw z (at_comma bs ih)
    go false false false p q k ih = in_element bs b p q ih
    go true c false p q k ih = absurd (let z : ◌≡◌ {A = ℕ} 0 1 = cc in omega arith)
    go false c true p q k ih = absurd (let z : ◌≡◌ {A = ℕ} 0 1 = cc in omega arith)

-- what stands between the brackets, from its elements
text_inside : (s : List ℕ) → spaced 0 s ≡ true → text_of (elements_in s) ≡ s
unfolding elements_in text_of space_after
text_inside [] h = refl
text_inside (b ∷ bs) h = rw (ne_eqb (suc (length bs)) 0 (λ e. omega arith)) (text_from 0 (b ∷ bs) h)

-- ---- brackets

-- a list that is not empty ends with its last byte
last_apart : (w : List ℕ) → 1 ≤ length w → w ≡ take (length w - 1) w ++ (get_or w (length w - 1) 0 ∷ [])
last_apart w h =
    let l : length w ≤ suc (length w - 1) = omega arith in
    let k : length w - 1 < length w = omega arith in
    sym (take_all (suc (length w - 1)) w l) ∙ take-suc w (length w - 1) 0 k

-- a value with brackets is what stands between them, in brackets
bracketed_text : (v : List ℕ) → bracketed v ≡ true → v ≡ open_bracket ∷ (inside v ++ (close_bracket ∷ []))
unfolding bracketed
bracketed_text [] h = absurd (let z : ◌≡◌ {A = ℕ} 0 1 = cc in omega arith)
bracketed_text (b ∷ w) h =
    let some : 1 ≤ length w = omega (arith, leb-true 2 (suc (length w)) (both_left _ _ (both_left _ _ h))) in
    let first : b ≡ open_bracket = eqb-true b open_bracket (both_right (leb 2 (suc (length w))) _ (both_left _ _ h)) in
    let at_last : suc (length w) - 1 ≡ suc (length w - 1) = omega arith in
    let within : suc (length w) - 2 ≡ length w - 1 = omega arith in
    let last : get_or w (length w - 1) 0 ≡ close_bracket = rw at_last at (eqb-true (get_or (b ∷ w) (suc (length w) - 1) 0) close_bracket (both_right (leb 2 (suc (length w)) && eqb b open_bracket) _ h)) in
    rw (within, first, ← last) (ap (λ (ys : List ℕ). open_bracket ∷ ys) (last_apart w some))

-- ---- a list value that is right: it has brackets, is spaced, and its elements are of its scalar

pub list_right : (scalar : Scalar) (v : List ℕ) → list_fault scalar v ≡ 0 → (bracketed v ≡ true) × (spaced 0 (inside v) ≡ true) × (all_of (is_scalar scalar) (elements v) ≡ true)
unfolding list_fault
list_right scalar v h = go (bracketed v) (spaced 0 (inside v)) (all_of (is_scalar scalar) (elements v)) h
  where
    go : (a b c : Bool) → cond {A = ℕ} (a && b) (cond c 0 5) 4 ≡ 0 → (a ≡ true) × (b ≡ true) × (c ≡ true)
    go true true true k = (refl, refl, refl)
    go true true false k = absurd (omega arith)
    go true false c k = absurd (omega arith)
    go false b c k = absurd (omega arith)

-- the text of a list from its elements
pub list_text : (v : List ℕ) → bracketed v ≡ true → spaced 0 (inside v) ≡ true → v ≡ open_bracket ∷ (text_of (elements v) ++ (close_bracket ∷ []))
unfolding elements
list_text v b s = rw (b, text_inside (inside v) s) (bracketed_text v b)

-- two list values that are right are the same when their elements are
pub same_elements : (a b : Scalar) (v w : List ℕ) → list_fault a v ≡ 0 → list_fault b w ≡ 0 → elements v ≡ elements w → v ≡ w
same_elements a b v w f g e =
    let p = list_right a v f in
    let q = list_right b w g in
    list_text v p.0 p.1 ∙ rw e (sym (list_text w q.0 q.1))
