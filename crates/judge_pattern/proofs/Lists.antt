-- What `matches` says of `all` and of elements that are not, over plain lists.
use Prim.Native.Nat.{ℕ}
use native.Mathlib.Omega.{arith}
use mathlib.Core.Path.{◌≡◌, refl}
use mathlib.Core.Bool.{Bool, true, false}
use mathlib.Core.List.{List, [], ◌∷◌}
use lib.ListN.{length}
use Rattle.paper.specs.Common.{is_empty}
use Rattle.paper.specs.Policy.{Element, all}
use Rattle.paper.specs.Match.{swallowing, first_meets, matches, is_all}
use Rattle.laws.specs.Frames.{meets_frame}
use Rattle.laws.proofs.Tests.{both_false, either_right, neither, neither_left, neither_right}
use Rattle.laws.proofs.Elements.{empty_refuses, all_takes, single_matches}

-- ---- a list with nothing in it

pub nothing_in : (xs : List ℕ) → length xs ≡ 0 → xs ≡ []
nothing_in [] h = refl
nothing_in (x ∷ xs) h = absurd (omega arith)

pub empty_needs_none : (F t : List ℕ) → (length t ≡ 0 → ⊥) → matches F [] t ≡ false
empty_needs_none F [] n = absurd (n refl)
empty_needs_none F (x ∷ t) n = empty_refuses F x t

-- ---- `all`s

module _ (F : List ℕ) where
  pub all_refuses : (p : List Element) (s : List ℕ) → matches F (all ∷ p) s ≡ false → matches F p s ≡ false
  unfolding matches swallowing
  all_refuses p [] h = h
  all_refuses p (x ∷ s) h = neither_left (matches F p (x ∷ s)) (matches F (all ∷ p) s) h

  -- where the rest does not match, `all` has to swallow a frame
  pub all_swallows : (p : List Element) (x : ℕ) (s : List ℕ) → matches F p (x ∷ s) ≡ false → matches F (all ∷ p) (x ∷ s) ≡ matches F (all ∷ p) s
  unfolding matches swallowing
  all_swallows p x s h = rw h

  pub all_alone : (s : List ℕ) → matches F (all ∷ []) s ≡ true
  unfolding matches swallowing
  all_alone [] = refl
  all_alone (x ∷ s) = either_right (is_empty (x ∷ s)) (matches F (all ∷ []) s) (all_alone s)

  pub all_twice : (p : List Element) (s : List ℕ) → matches F (all ∷ p) s ≡ false → matches F (all ∷ all ∷ p) s ≡ false
  unfolding matches swallowing
  all_twice p [] h = h
  all_twice p (x ∷ s) h =
      neither (matches F (all ∷ p) (x ∷ s)) (matches F (all ∷ all ∷ p) s) h (all_twice p s (neither_right (matches F p (x ∷ s)) (matches F (all ∷ p) s) h))

  pub alls_as_one : (p : List Element) (s : List ℕ) → matches F (all ∷ all ∷ p) s ≡ matches F (all ∷ p) s
  alls_as_one p s = go (matches F (all ∷ p) s) refl
    where
      go : (t : Bool) → matches F (all ∷ p) s ≡ t → matches F (all ∷ all ∷ p) s ≡ t
      go true h = all_takes F (all ∷ p) s h
      go false h = all_twice p s h

  -- ---- an element that is not `all`, before a pattern
  module _ (e : Element) (single : is_all e ≡ false) (p : List Element) where
    -- it needs a frame
    single_at_end : matches F (e ∷ p) [] ≡ false
    unfolding first_meets
    single_at_end = single_matches F e p [] single

    pub later_at_end : matches F (all ∷ e ∷ p) [] ≡ false
    unfolding matches swallowing
    later_at_end = single_at_end

    -- where the rest does not match behind it, it does not
    single_refuses : (x : ℕ) (s : List ℕ) → matches F p s ≡ false → matches F (e ∷ p) (x ∷ s) ≡ false
    unfolding first_meets
    single_refuses x s h = rw (single_matches F e p (x ∷ s) single) (both_false (meets_frame F e x) (matches F p s) h)

    -- where the rest never matches, it does not either
    never_before : (x : ℕ) (s : List ℕ) → matches F (all ∷ p) s ≡ false → matches F (all ∷ e ∷ p) s ≡ false → matches F (all ∷ e ∷ p) (x ∷ s) ≡ false
    unfolding matches swallowing
    never_before x s h k = neither (matches F (e ∷ p) (x ∷ s)) (matches F (all ∷ e ∷ p) s) (single_refuses x s (all_refuses p s h)) k

    never_anywhere : (s : List ℕ) → matches F (all ∷ p) s ≡ false → matches F (all ∷ e ∷ p) s ≡ false
    unfolding matches swallowing
    never_anywhere [] h = later_at_end
    never_anywhere (x ∷ s) h =
        let k : matches F (all ∷ p) s ≡ false = neither_right (matches F p (x ∷ s)) (matches F (all ∷ p) s) h in
        never_before x s k (never_anywhere s k)

    pub later_refuses : (x : ℕ) (s : List ℕ) → matches F (all ∷ p) s ≡ false → matches F (all ∷ e ∷ p) (x ∷ s) ≡ false
    later_refuses x s h = never_before x s h (never_anywhere s h)
