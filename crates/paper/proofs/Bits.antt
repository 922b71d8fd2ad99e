-- The bit of a domain, as `contains` and `insert` of `Operation` compute it.
use Prim.Native.Nat.{ℕ, zero, suc, ◌+◌, ◌*◌, ◌/◌, ◌%◌, ◌^◌, ◌<◌, ◌≤◌}
use mathlib.Core.Path.{◌≡◌, refl, sym, ap, ◌∙◌}
use mathlib.Core.Bool.{true, false}
use mathlib.Core.List.{List}
use native.Mathlib.Nat.{one-mul, mod-eq_of_lt, div-div-eq-div-mul, pow-succ', pow-suc, div-one, zero-div}
use native.Mathlib.Omega.{arith}
use lib.Pow.{pow-lt}
use lib.ListN.{length, get_or, set, get_or-eq_default}
use lib.Seq.{set_out}
use borrow.Author.Tests.{eqb-false}
use Rattle.paper.specs.Table.{is_in, with_domain}

pub bit_suc : (w k : ℕ) → w / 2 ^ suc k ≡ w / 2 / 2 ^ k
bit_suc w k = ap (λ (x : ℕ). w / x) (pow-succ' 2 k) ∙ sym (div-div-eq-div-mul w 2 (2 ^ k))

-- a bit that is off can be put on
pub bit_fits : (n k w : ℕ) → k < n → w < 2 ^ n → w / 2 ^ k % 2 ≡ 0 → w + 2 ^ k < 2 ^ n
bit_fits zero k w h l z = omega arith
bit_fits (suc n) zero w h l z = let e : w % 2 ≡ 0 = rw div-one at z in omega (arith, pow-suc 2 n)
bit_fits (suc n) (suc k) w h l z =
    let r : w / 2 + 2 ^ k < 2 ^ n = bit_fits n k (w / 2) (omega arith) (omega (arith, pow-suc 2 n)) (rw bit_suc at z) in
    omega (arith, pow-suc 2 n, pow-suc 2 k)

-- the power as a shift of a word computes it
shifted : (k : ℕ) → k < 16 → 1 * 2 ^ k % 65536 ≡ 2 ^ k
shifted k h = ap (λ (x : ℕ). x % 65536) (one-mul (2 ^ k)) ∙ mod-eq_of_lt (pow-lt h)

pub put_fits : (w d : ℕ) → w < 2 ^ 16 → w / 2 ^ (d % 16) % 2 ≡ 0 → w + 1 * 2 ^ (d % 16) % 65536 < 2 ^ 16
put_fits w d l z =
    let k : d % 16 < 16 = omega arith in
    omega (arith, shifted (d % 16) k, bit_fits 16 (d % 16) w k l z)

module _ (s : List ℕ) (d : ℕ) where
  -- a domain that is not in the set has its bit off
  pub bit_off : is_in s d ≡ false → get_or s (d / 16) 0 / 2 ^ (d % 16) % 2 ≡ 0
  unfolding is_in
  bit_off e = omega (arith, eqb-false (get_or s (d / 16) 0 / 2 ^ (d % 16) % 2) 1 e)

  pub put : is_in s d ≡ false → set s (d / 16) (get_or s (d / 16) 0 + 1 * 2 ^ (d % 16) % 65536) ≡ with_domain s d
  unfolding with_domain
  put e = let k : d % 16 < 16 = omega arith in rw (e, shifted (d % 16) k) refl

  pub put_already : is_in s d ≡ true → s ≡ with_domain s d
  unfolding with_domain
  put_already e = rw e refl

  past_end : length s ≤ d / 16 → false ≡ is_in s d
  unfolding is_in
  past_end h = rw (get_or-eq_default s 0 h, zero-div)

  pub put_past_end : length s ≤ d / 16 → s ≡ with_domain s d
  unfolding with_domain
  put_past_end h = rw (← past_end h, set_out s (d / 16) (get_or s (d / 16) 0 + 2 ^ (d % 16)) h)
