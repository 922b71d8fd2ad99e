-- Places in a list of numbers.
use mathlib.Core.Path.{◌≡◌, refl, sym}
use mathlib.Core.List.{List, [], ◌∷◌}
use Prim.Native.Nat.{ℕ, zero, suc, ◌+◌, ◌-◌, ◌<◌}
use native.Mathlib.Nat.{sub-zero, suc-sub-suc, zero-sub}
use native.Mathlib.Omega.{arith}
use native.Mathlib.Numerals.{add-one}
use lib.ListN.{length, take, drop, get_or, set, replicate}
use lib.Seq.{drop-cons, drop-nil, take-nil}

pub drop_more : (l : List ℕ) (i : ℕ) → i < length l → drop i l ≡ get_or l i 0 ∷ drop (i + 1) l
drop_more l i h = rw (add-one, drop-cons l i 0)

-- numbers that are all below b stay so when one below b is put among them
pub below_after_set : (l : List ℕ) (b i v : ℕ) → ((k : ℕ) → get_or l k 0 < b) → v < b → (k : ℕ) → get_or (set l i v) k 0 < b
below_after_set [] b i v below h k = below k
below_after_set (x ∷ xs) b zero v below h zero = h
below_after_set (x ∷ xs) b zero v below h (suc k) = below (suc k)
below_after_set (x ∷ xs) b (suc i) v below h zero = below 0
below_after_set (x ∷ xs) b (suc i) v below h (suc k) = below_after_set xs b i v (λ n. below (suc n)) h k

-- zeros are left where some are dropped
pub drop_zeros : (m n : ℕ) → drop {A = ℕ} n (replicate m 0) ≡ replicate (m - n) 0
drop_zeros m zero = rw sub-zero
drop_zeros zero (suc n) = rw zero-sub
drop_zeros (suc m) (suc n) = rw suc-sub-suc (drop_zeros m n)

-- a part of a part
pub drop_take : (k n : ℕ) (xs : List ℕ) → drop k (take n xs) ≡ take (n - k) (drop k xs)
drop_take zero n xs = let q : n - 0 ≡ n = omega arith in rw q refl
drop_take (suc k) zero xs = let q : 0 - suc k ≡ 0 = omega arith in rw q (drop-nil (suc k))
drop_take (suc k) (suc n) [] = sym (take-nil (suc n - suc k))
drop_take (suc k) (suc n) (x ∷ xs) = let q : suc n - suc k ≡ n - k = omega arith in rw q (drop_take k n xs)
