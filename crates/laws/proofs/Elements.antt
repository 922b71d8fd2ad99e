-- The elements that the words of a pattern are, and the frames that they meet.
use Prim.Native.Nat.{ℕ, zero, suc, ◌+◌, ◌-◌, ◌<◌, ◌≤◌}
use native.Mathlib.Omega.{arith}
use mathlib.Core.Path.{◌≡◌, refl, sym, ap}
use mathlib.Core.Bool.{Bool, true, false, cond, false≢true}
use mathlib.Core.List.{List, [], ◌∷◌, map}
use lib.Dec.{ltb, eqb-suc-zero}
use lib.ListN.{length, drop, get_or, drop_of_length-le}
use borrow.Author.Tests.{lt-ltb, le-ltb}
use Rattle.paper.specs.Policy.{Element, all, fn, any_in}
use Rattle.paper.specs.Match.{swallowing, first_meets, matches, is_all}
use Rattle.paper.specs.Table.{first_domain_word, element_in}
use Rattle.laws.specs.Frames.{meets_frame}
use Rattle.laws.proofs.Places.{drop_more}
use Rattle.laws.proofs.Tests.{either_left}

-- ---- the empty pattern, and `all` that drops out
pub empty_refuses : (F : List ℕ) (x : ℕ) (s : List ℕ) → matches F [] (x ∷ s) ≡ false
unfolding matches
empty_refuses F x s = eqb-suc-zero (length s)

pub all_takes : (F : List ℕ) (P : List Element) (s : List ℕ) → matches F P s ≡ true → matches F (all ∷ P) s ≡ true
unfolding matches swallowing
all_takes F P [] h = h
all_takes F P (x ∷ s) h = either_left (matches F P (x ∷ s)) (matches F (all ∷ P) s) h

-- ---- an element that is not `all`, in front of a pattern
pub single_matches : (F : List ℕ) (e : Element) (P : List Element) (s : List ℕ) → is_all e ≡ false → matches F (e ∷ P) s ≡ first_meets (meets_frame F e) (matches F P) s
unfolding matches first_meets meets_frame is_all
single_matches F all P s h = absurd (false≢true (sym h))
single_matches F (fn f) P [] h = refl
single_matches F (fn f) P (x ∷ s) h = refl
single_matches F (any_in d) P [] h = refl
single_matches F (any_in d) P (x ∷ s) h = refl

-- ---- the element of a word
pub word_function : (w : ℕ) → (w ≡ 0 → ⊥) → w < first_domain_word → element_in w ≡ fn (w - 1)
unfolding element_in
word_function zero n h = absurd (n refl)
word_function (suc f) n h = rw (lt-ltb (suc f) first_domain_word h) (ap fn (omega arith))

pub word_domain : (w : ℕ) → first_domain_word ≤ w → element_in w ≡ any_in (w - first_domain_word)
unfolding element_in
word_domain zero h = absurd (omega arith)
word_domain (suc f) h = rw (le-ltb (suc f) first_domain_word h)

pub word_single : (w : ℕ) → (w ≡ 0 → ⊥) → is_all (element_in w) ≡ false
unfolding element_in
word_single zero n = absurd (n refl)
word_single (suc f) n = go (ltb (suc f) first_domain_word)
  where
    go : (t : Bool) → is_all (cond t (fn f) (any_in (suc f - first_domain_word))) ≡ false
    go true = unfold is_all in refl
    go false = unfold is_all in refl

-- ---- the pattern from place i on
module _ (p : List ℕ) (i : ℕ) where
  pub at_element : i < length p → map element_in (drop i p) ≡ element_in (get_or p i 0) ∷ map element_in (drop (i + 1) p)
  at_element h = rw (drop_more p i h)

  pub at_all : i < length p → get_or p i 0 ≡ 0 → map element_in (drop i p) ≡ all ∷ map element_in (drop (i + 1) p)
  unfolding element_in
  at_all h e = rw (drop_more p i h, e)

  pub at_end_lem : length p ≤ i → map element_in (drop i p) ≡ []
  at_end_lem h = rw (drop_of_length-le p h)

  -- a place of an element that is not `all`
  pub at_single : (F s : List ℕ) → i < length p → (get_or p i 0 ≡ 0 → ⊥) →
      matches F (map element_in (drop i p)) s ≡ first_meets (meets_frame F (element_in (get_or p i 0))) (matches F (map element_in (drop (i + 1) p))) s
  at_single F s h n = rw (at_element h) (single_matches F (element_in (get_or p i 0)) (map element_in (drop (i + 1) p)) s (word_single (get_or p i 0) n))
