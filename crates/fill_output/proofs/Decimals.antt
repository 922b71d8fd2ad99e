-- A number in decimal, digit by digit, and how many digits it has at most.
use mathlib.Core.Path.{◌≡◌, refl}
use mathlib.Core.Bool.{Bool, true, false, cond}
use mathlib.Core.List.{List, [], ◌∷◌, ◌++◌}
use Prim.Native.Nat.{ℕ, zero, suc, ◌+◌, ◌/◌, ◌%◌, ◌^◌, ◌<◌, ◌≤◌}
use native.Mathlib.Nat.{pow-suc}
use native.Mathlib.Omega.{arith}
use lib.Dec.{ltb}
use lib.ListN.{length, length-append}
use borrow.Author.Tests.{ltb-false, lt-ltb, le-ltb}
use Rattle.filled_lines.specs.Wrote.{Wrote}
use Rattle.filled_lines.proofs.Writing.{left, over, first_room, last_room, both_wrote}
use Rattle.paper.specs.Program.{digit, last_digits, decimal}

-- where every digit that a number has is allowed, it makes no difference how many more are
same_digits : (a b n : ℕ) → n < a → n < b → last_digits a n ≡ last_digits b n
unfolding last_digits
same_digits zero b n p q = absurd (omega arith)
same_digits (suc a) zero n p q = absurd (omega arith)
same_digits (suc a) (suc b) n p q = go (ltb n 10) refl (same_digits a b (n / 10))
  where
    go : (x : Bool) → ltb n 10 ≡ x → (n / 10 < a → n / 10 < b → last_digits a (n / 10) ≡ last_digits b (n / 10))
        → cond x (digit n ∷ []) (last_digits a (n / 10) ++ (digit (n % 10) ∷ [])) ≡ cond x (digit n ∷ []) (last_digits b (n / 10) ++ (digit (n % 10) ∷ []))
    go true e same = refl
    go false e same = let h : 10 ≤ n = ltb-false n 10 e in rw (same (omega arith) (omega arith)) refl

one_digit : (n : ℕ) → n < 10 → decimal n ≡ digit n ∷ []
unfolding decimal last_digits
one_digit n h = rw (lt-ltb n 10 h) refl

last_digit : (n : ℕ) → 10 ≤ n → decimal n ≡ decimal (n / 10) ++ (digit (n % 10) ∷ [])
unfolding decimal last_digits
last_digit n h = rw (le-ltb n 10 h, same_digits n (suc (n / 10)) (n / 10) (omega arith) (omega arith)) refl

-- a number below 10 ^ k has at most k digits, but that 0 has one
few_last : (k most n : ℕ) → n < 10 ^ k → length (last_digits most n) ≤ k + 1
unfolding last_digits
few_last k zero n h = omega arith
few_last zero (suc most) n h = rw (lt-ltb n 10 (omega arith)) (omega arith)
few_last (suc k) (suc most) n h = go (ltb n 10) (few_last k most (n / 10) (omega (arith, rw pow-suc at h)))
  where
    go : (x : Bool) → length (last_digits most (n / 10)) ≤ k + 1
        → length (cond x (digit n ∷ []) (last_digits most (n / 10) ++ (digit (n % 10) ∷ []))) ≤ suc k + 1
    go true few = omega arith
    go false few = omega (arith, length-append (last_digits most (n / 10)) (digit (n % 10) ∷ []))

pub few_digits : (k n : ℕ) → n < 10 ^ k → length (decimal n) ≤ k + 1
unfolding decimal
few_digits k n h = few_last k (suc n) n h

-- ---- a number being written

module _ (n : ℕ) (old : List ℕ) (h : n < 10) where
  pub one_room : length (decimal n) ≤ length old → 1 ≤ length old
  one_room l = rw (one_digit n h) at l

  pub one_wrote : (out : List ℕ) (r : ℕ) → Wrote (digit n ∷ []) old out r → Wrote (decimal n) old out r
  one_wrote out r w = rw (one_digit n h) w

module _ (n : ℕ) (old : List ℕ) (h : 10 ≤ n) where
  pub tenth_falls : (t : ℕ) → n ≡ t → n / 10 < t
  tenth_falls t e = omega arith

  pub tenth_room : length (decimal n) ≤ length old → length (decimal (n / 10)) ≤ length old
  tenth_room l = first_room (decimal (n / 10)) (digit (n % 10) ∷ []) old (rw (last_digit n h) at l)

  module _ (out : List ℕ) (a : ℕ) (u : Wrote (decimal (n / 10)) old out a) where
    pub digit_room : length (decimal n) ≤ length old → 1 ≤ length (left out a)
    digit_room l = last_room (decimal (n / 10)) old out a u (digit (n % 10) ∷ []) (rw (last_digit n h) at l)

    pub digits_wrote : (ys : List ℕ) (b : ℕ) → Wrote (digit (n % 10) ∷ []) (left out a) ys b → Wrote (decimal n) old (over out a ys) (a + b)
    digits_wrote ys b v = rw (last_digit n h) (both_wrote (decimal (n / 10)) old out a u (digit (n % 10) ∷ []) ys b v)
