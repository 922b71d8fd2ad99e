-- "A pattern matches a stack when: an empty pattern meets an empty stack; a first function equals the first frame and the rest of the pattern
-- against the rest of the stack matches; a first `all` either drops out or swallows one frame and stays", and a domain "meets any one frame whose
-- function lies in that domain" (document 02 d). `matches` says just that.
use Prim.Native.Nat.{ℕ}
use mathlib.Core.Path.{◌≡◌, refl, subst}
use mathlib.Core.Bool.{true, false≢true}
use mathlib.Core.List.{List, [], ◌∷◌}
use mathlib.Core.Logic.{⊎_elim}
use lib.Dec.{eqb}
use borrow.Author.Tests.{eqb-true, eq-eqb}
use Rattle.paper.specs.Policy.{Element, all, fn, any_in}
use Rattle.paper.specs.Match.{lies_in, swallowing, first_meets, matches}
use Rattle.laws.proofs.Tests.{both_true, both_left, both_right, either_right, either_of}
use Rattle.laws.proofs.Elements.{all_takes, empty_refuses}

module _ (F : List ℕ) where
  pub data Matches : List Element → List ℕ → Type 0 where
    empty_meets_empty : Matches [] []
    first_equals : {f : ℕ} {p : List Element} {s : List ℕ} → Matches p s → Matches (fn f ∷ p) (f ∷ s)
    first_lies : {d x : ℕ} {p : List Element} {s : List ℕ} → lies_in F d x ≡ true → Matches p s → Matches (any_in d ∷ p) (x ∷ s)
    drops_out : {p : List Element} {s : List ℕ} → Matches p s → Matches (all ∷ p) s
    swallows : {p : List Element} {x : ℕ} {s : List ℕ} → Matches (all ∷ p) s → Matches (all ∷ p) (x ∷ s)

  pub matches_complete : {p : List Element} {s : List ℕ} → Matches p s → matches F p s ≡ true
  unfolding matches swallowing first_meets
  matches_complete empty_meets_empty = refl
  matches_complete (first_equals {f} {p} {s} m) = both_true (eqb f f) (matches F p s) (eq-eqb f f refl) (matches_complete m)
  matches_complete (first_lies {d} {x} {p} {s} h m) = both_true (lies_in F d x) (matches F p s) h (matches_complete m)
  matches_complete (drops_out {p} {s} m) = all_takes F p s (matches_complete m)
  matches_complete (swallows {p} {x} {s} m) = either_right (matches F p (x ∷ s)) (matches F (all ∷ p) s) (matches_complete m)

  behind_all : (p : List Element) → ((s : List ℕ) → matches F p s ≡ true → Matches p s) → (s : List ℕ) → matches F (all ∷ p) s ≡ true → Matches (all ∷ p) s
  unfolding matches swallowing
  behind_all p rest [] h = drops_out (rest [] h)
  behind_all p rest (x ∷ s) h =
      ⊎_elim (λ m. drops_out (rest (x ∷ s) m)) (λ m. swallows (behind_all p rest s m)) (either_of (matches F p (x ∷ s)) (matches F (all ∷ p) s) h)

  pub matches_sound : (p : List Element) (s : List ℕ) → matches F p s ≡ true → Matches p s
  unfolding matches first_meets
  matches_sound [] [] h = empty_meets_empty
  matches_sound [] (x ∷ s) h = absurd (false≢true (rw (empty_refuses F x s) at h))
  matches_sound (all ∷ p) s h = behind_all p (matches_sound p) s h
  matches_sound (fn f ∷ p) [] h = absurd (false≢true h)
  matches_sound (fn f ∷ p) (x ∷ s) h =
      subst
      (λ (z : ℕ). Matches (fn f ∷ p) (z ∷ s))
      (eqb-true f x (both_left (eqb f x) (matches F p s) h))
      (first_equals (matches_sound p s (both_right (eqb f x) (matches F p s) h)))
  matches_sound (any_in d ∷ p) [] h = absurd (false≢true h)
  matches_sound (any_in d ∷ p) (x ∷ s) h =
      first_lies (both_left (lies_in F d x) (matches F p s) h) (matches_sound p s (both_right (lies_in F d x) (matches F p s) h))
