-- Loops over a stretch of bytes: what is left at an index has the answer of the whole.
use mathlib.Core.Path.{◌≡◌, sym, ◌∙◌}
use mathlib.Core.Bool.{Bool, true, false, not}
use mathlib.Core.List.{List}
use Prim.Native.Nat.{ℕ, suc, ◌+◌, ◌<◌, ◌≤◌}
use native.Mathlib.Omega.{arith}
use lib.ListN.{length, get_or, drop, drop_of_length-le}
use borrow.Author.Tests.{eq-eqb, ne_eqb, not-true, not-false}
use Rattle.paper.specs.Common.{all_of, is_front_of}
use Rattle.laws.specs.Pieces.{before}
use Rattle.laws.proofs.Places.{drop_more}

-- ---- every byte passes a test

module _ (f : ℕ → Bool) (s : List ℕ) (i : ℕ) (inv : all_of f (drop i s) ≡ all_of f s) where
  pub all_again : (r : Bool) → i < length s → r ≡ f (get_or s i 0) → not r ≡ false → all_of f (drop (i + 1) s) ≡ all_of f s
  unfolding all_of
  all_again r h e t = let g : f (get_or s i 0) ≡ true = sym e ∙ not-false r t in rw (← inv, drop_more s i h, g)

  pub all_fails : (r : Bool) → i < length s → r ≡ f (get_or s i 0) → not r ≡ true → false ≡ all_of f s
  unfolding all_of
  all_fails r h e t = let g : f (get_or s i 0) ≡ false = sym e ∙ not-true r t in rw (← inv, drop_more s i h, g)

  pub all_ends : length s ≤ i → true ≡ all_of f s
  unfolding all_of
  all_ends h = rw (← inv, drop_of_length-le s h)

-- ---- one stretch begins with another

module _ (k s : List ℕ) (i : ℕ) (inv : is_front_of (drop i k) (drop i s) ≡ is_front_of k s) where
  pub front_again : i < length k → i < length s → get_or k i 0 ≡ get_or s i 0 → is_front_of (drop (i + 1) k) (drop (i + 1) s) ≡ is_front_of k s
  unfolding is_front_of
  front_again h l e = rw (← inv, drop_more k i h, drop_more s i l, eq-eqb _ _ e)

  pub front_differs : i < length k → i < length s → (get_or k i 0 ≡ get_or s i 0 → ⊥) → false ≡ is_front_of k s
  unfolding is_front_of
  front_differs h l e = rw (← inv, drop_more k i h, drop_more s i l, ne_eqb _ _ e)

  pub front_short : i < length k → length s ≤ i → false ≡ is_front_of k s
  unfolding is_front_of
  front_short h l = rw (← inv, drop_more k i h, drop_of_length-le s l)

  pub front_ends : length k ≤ i → true ≡ is_front_of k s
  unfolding is_front_of
  front_ends h = rw (← inv, drop_of_length-le k h)

-- ---- the way to a separator

module _ (c : ℕ) (s : List ℕ) (at i : ℕ) (inv : i + before c (drop i s) ≡ at + before c (drop at s)) where
  before_more : i < length s → (get_or s i 0 ≡ c → ⊥) → before c (drop i s) ≡ suc (before c (drop (i + 1) s))
  unfolding before
  before_more h e = rw (drop_more s i h, ne_eqb _ _ e)

  before_here : i < length s → get_or s i 0 ≡ c → before c (drop i s) ≡ 0
  unfolding before
  before_here h e = rw (drop_more s i h, eq-eqb _ _ e)

  before_none : length s ≤ i → before c (drop i s) ≡ 0
  unfolding before
  before_none h = rw (drop_of_length-le s h)

  pub find_again : i < length s → (get_or s i 0 ≡ c → ⊥) → i + 1 + before c (drop (i + 1) s) ≡ at + before c (drop at s)
  find_again h e = omega (arith, before_more h e)

  pub find_here : i < length s → get_or s i 0 ≡ c → i ≡ at + before c (drop at s)
  find_here h e = omega (arith, before_here h e)

  pub find_ends : length s ≤ i → i ≡ at + before c (drop at s)
  find_ends h = omega (arith, before_none h)
