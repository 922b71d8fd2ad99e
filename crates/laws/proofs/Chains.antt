-- A function that makes one test after another, and answers false at the first that fails, answers their conjunction.
-- Each law turns what such a place knows, a function's answer or a comparison of a number just read, into the value of the test.
use mathlib.Core.Path.{◌≡◌, sym, ◌∙◌}
use mathlib.Core.Bool.{Bool, true, false, cond, not}
use Prim.Native.Nat.{ℕ, ◌<◌, ◌≤◌}
use lib.Dec.{eqb, ltb, leb}
use borrow.Author.Tests.{eq-eqb, ne_eqb, lt-ltb, le-ltb, le-leb, lt-leb, not-true, not-false}

-- ---- a test that a function made

pub tested_false : (x r : Bool) → r ≡ x → not r ≡ true → x ≡ false
tested_false x r e h = sym e ∙ not-true r h

pub tested_true : (x r : Bool) → r ≡ x → not r ≡ false → x ≡ true
tested_true x r e h = sym e ∙ not-false r h

-- ---- a number w that was read, and compared

pub not_below : (x n w : ℕ) → w ≡ x → n ≤ w → ltb x n ≡ false
not_below x n w e h = le-ltb x n (rw e at h)

pub is_below : (x n w : ℕ) → w ≡ x → w < n → ltb x n ≡ true
is_below x n w e h = lt-ltb x n (rw e at h)

pub is_above : (x n w : ℕ) → w ≡ x → n < w → leb x n ≡ false
is_above x n w e h = lt-leb x n (rw e at h)

pub not_above : (x n w : ℕ) → w ≡ x → w ≤ n → leb x n ≡ true
not_above x n w e h = le-leb x n (rw e at h)

pub falls_short : (x n w : ℕ) → w ≡ x → w < n → leb n x ≡ false
falls_short x n w e h = lt-leb n x (rw e at h)

pub reaches : (x n w : ℕ) → w ≡ x → n ≤ w → leb n x ≡ true
reaches x n w e h = le-leb n x (rw e at h)

pub is_other : (x n w : ℕ) → w ≡ x → (w ≡ n → ⊥) → eqb x n ≡ false
is_other x n w e h = ne_eqb x n (rw e at h)

pub is_equal : (x n w : ℕ) → w ≡ x → w ≡ n → eqb x n ≡ true
is_equal x n w e h = eq-eqb x n (rw e at h)

-- both were read
pub not_below_it : (x y w n : ℕ) → w ≡ x → n ≡ y → n ≤ w → ltb x y ≡ false
not_below_it x y w n e f h = not_below x y w e (rw f at h)

pub below_it : (x y w n : ℕ) → w ≡ x → n ≡ y → w < n → ltb x y ≡ true
below_it x y w n e f h = is_below x y w e (rw f at h)

-- ---- a chain of tests: the answer stands at the first that passes

module _ {A : Type 0} (test told : Bool) (answer first rest : A) (e : told ≡ test) where
  pub chain_found : told ≡ true → answer ≡ first → answer ≡ cond test first rest
  chain_found t f = rw (← e, t) f

  pub chain_on : told ≡ false → answer ≡ rest → answer ≡ cond test first rest
  chain_on t f = rw (← e, t) f
