-- An element that is not `all` at the end of a pattern meets the last frame, and the elements before it match the frames below.
use Prim.Native.Nat.{ℕ}
use mathlib.Core.Path.{◌≡◌, refl, sym, ◌∙◌}
use mathlib.Core.Bool.{Bool, true, false, not, ◌&&◌, ◌||◌}
use mathlib.Core.List.{List, [], ◌∷◌, ◌++◌, map, map-append}
use lib.ListN.{length}
use Rattle.std.specs.List.{IsLastAndRest}
use Rattle.paper.specs.Policy.{Element, all, fn, any_in}
use Rattle.paper.specs.Table.{element_in}
use Rattle.paper.specs.Match.{swallowing, first_meets, matches, is_all}
use Rattle.laws.specs.Frames.{meets_frame}
use Rattle.laws.proofs.Tests.{both_false}
use Rattle.laws.proofs.Chains.{tested_false, tested_true}
use Rattle.laws.proofs.Elements.{single_matches, word_single, empty_refuses}
use Rattle.judge_pattern.specs.Run.{matches_words}
use Rattle.judge_pattern.proofs.Lists.{nothing_in}

-- ---- one test more, behind others

-- a test of stacks with one frame more on top: that frame is tested by itself
abbrev TopTested : ℕ → Bool → (List ℕ → Bool) → (List ℕ → Bool) → Type 0
TopTested x met whole below = (whole [] ≡ false) × ((s : List ℕ) → whole (s ++ (x ∷ [])) ≡ (met && below s))

swap : (a b c : Bool) → (a && (b && c)) ≡ (b && (a && c))
swap true b c = refl
swap false b c = sym (both_false b false refl)

share : (a b c : Bool) → ((a && b) || (a && c)) ≡ (a && (b || c))
share true b c = refl
share false b c = refl

or_false : (a : Bool) → (a || false) ≡ a
or_false true = refl
or_false false = refl

module _ (x : ℕ) (met : Bool) (whole below : List ℕ → Bool) (tested : TopTested x met whole below) where
  first_then_top : (test : ℕ → Bool) (s : List ℕ) → first_meets test whole (s ++ (x ∷ [])) ≡ (met && first_meets test below s)
  unfolding first_meets
  first_then_top test [] = both_false (test x) (whole []) tested.0 ∙ sym (both_false met false refl)
  first_then_top test (y ∷ s) = rw (tested.1 s) (swap (test y) met (below s))

  swallowed_then_top : (s : List ℕ) → swallowing whole (s ++ (x ∷ [])) ≡ (met && swallowing below s)
  unfolding swallowing
  swallowed_then_top [] = rw (tested.0, tested.1 []) (or_false (met && below []))
  swallowed_then_top (y ∷ s) = rw (tested.1 (y ∷ s), swallowed_then_top s) (share met (below (y ∷ s)) (swallowing below s))

-- ---- the last element

module _ (F : List ℕ) (e : Element) (single : is_all e ≡ false) where
  abbrev with_last : List Element → List Element
  with_last p = p ++ (e ∷ [])

  pub last_needs_a_frame : (p : List Element) → matches F (with_last p) [] ≡ false
  unfolding matches swallowing first_meets
  last_needs_a_frame [] = single_matches F e [] [] single
  last_needs_a_frame (all ∷ p) = last_needs_a_frame p
  last_needs_a_frame (fn f ∷ p) = refl
  last_needs_a_frame (any_in d ∷ p) = refl

  module _ (x : ℕ) where
    not_empty : (s : List ℕ) → matches F [] (s ++ (x ∷ [])) ≡ false
    not_empty [] = empty_refuses F x []
    not_empty (y ∷ s) = empty_refuses F y (s ++ (x ∷ []))

    alone : (s : List ℕ) → matches F (e ∷ []) (s ++ (x ∷ [])) ≡ (meets_frame F e x && matches F [] s)
    unfolding matches first_meets
    alone [] = single_matches F e [] (x ∷ []) single
    alone (y ∷ s) =
        single_matches F e [] (y ∷ (s ++ (x ∷ []))) single
        ∙ both_false (meets_frame F e y) (matches F [] (s ++ (x ∷ []))) (not_empty s)
        ∙ sym (both_false (meets_frame F e x) (matches F [] (y ∷ s)) (empty_refuses F y s))

    pub last_meets_top : (p : List Element) (s : List ℕ) → matches F (with_last p) (s ++ (x ∷ [])) ≡ (meets_frame F e x && matches F p s)
    unfolding matches
    last_meets_top [] s = alone s
    last_meets_top (all ∷ p) s = swallowed_then_top x (meets_frame F e x) (matches F (with_last p)) (matches F p) (last_needs_a_frame p, last_meets_top p) s
    last_meets_top (fn f ∷ p) s = first_then_top x (meets_frame F e x) (matches F (with_last p)) (matches F p) (last_needs_a_frame p, last_meets_top p) _ s
    last_meets_top (any_in d ∷ p) s = first_then_top x (meets_frame F e x) (matches F (with_last p)) (matches F p) (last_needs_a_frame p, last_meets_top p) _ s

-- ---- what is left of a pattern and a stack, each element behind it meeting its frame: it decides

module _ (F p s q t : List ℕ) (left : matches_words F p s ≡ matches_words F q t) (w : ℕ) (before : List ℕ) (last : IsLastAndRest q w before) (n : w ≡ 0 → ⊥) where
  -- the last element is one that is not `all`
  with_one : map element_in q ≡ map element_in before ++ (element_in w ∷ [])
  with_one = rw last.0 (map-append element_in before (w ∷ []))

  pub no_frame_left : length t ≡ 0 → matches_words F p s ≡ false
  no_frame_left k = left ∙ rw (with_one, nothing_in t k) (last_needs_a_frame F (element_in w) (word_single w n) (map element_in before))

  module _ (x : ℕ) (below : List ℕ) (top : IsLastAndRest t x below) (r : Bool) (told : r ≡ meets_frame F (element_in w) x) where
    at_top : matches_words F p s ≡ (meets_frame F (element_in w) x && matches_words F before below)
    at_top = left ∙ rw (with_one, top.0) (last_meets_top F (element_in w) (word_single w n) x (map element_in before) below)

    pub top_differs : not r ≡ true → matches_words F p s ≡ false
    top_differs d = at_top ∙ rw (tested_false _ r told d)

    pub top_meets : not r ≡ false → matches_words F p s ≡ matches_words F before below
    top_meets d = at_top ∙ rw (tested_true _ r told d)
