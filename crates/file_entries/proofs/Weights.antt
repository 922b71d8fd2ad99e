-- The weight of a value, eight bytes after eight bytes.
use mathlib.Core.Path.{◌≡◌, refl, ap, ◌∙◌}
use mathlib.Core.List.{List}
use Prim.Native.Nat.{ℕ, suc, ◌+◌, ◌*◌, ◌-◌, ◌/◌, ◌%◌, ◌<◌, ◌≤◌}
use native.Mathlib.Omega.{arith}
use lib.ListN.{length}
use borrow.Author.Tests.{lt-ltb, le-ltb}
use Rattle.file_index.specs.Buckets.{multiplier, hashes, hash_of}
use Rattle.file_entries.specs.Weights.{apart, four_at, with_eight, eights, weight_of}

pub eight_is : (v : List ℕ) (h i low high : ℕ) → low ≡ four_at v i → high ≡ four_at v (i + 4) → (h * multiplier + low * apart + high) % hashes ≡ with_eight h v i
eight_is v h i low high e f = rw (e, f) refl

module _ (v : List ℕ) (k h : ℕ) (e : h ≡ eights v k) where
  pub eight_more : (r : ℕ) → r ≡ with_eight h v (8 * k) → r ≡ eights v (k + 1)
  unfolding eights
  eight_more r f = let next : suc k ≡ k + 1 = omega arith in f ∙ ap (λ (x : ℕ). with_eight x v (8 * k)) e ∙ ap (eights v) next

  pub eights_end : length v < 8 * k + 8 → 8 * k ≤ length v → h ≡ eights v (length v / 8)
  eights_end l m = let d : k ≡ length v / 8 = omega arith in e ∙ ap (eights v) d

pub eights_start : (v : List ℕ) → 0 ≡ eights v 0
unfolding eights
eights_start v = refl

module _ (v : List ℕ) (r : ℕ) where
  pub weight_short : length v < 8 → r ≡ hash_of multiplier v → r ≡ weight_of v
  unfolding weight_of
  weight_short l e = rw (lt-ltb (length v) 8 l) e

  pub weight_long : (h : ℕ) → 8 ≤ length v → h ≡ eights v (length v / 8) → r ≡ with_eight h v (length v - 8) → r ≡ weight_of v
  unfolding weight_of
  weight_long h l e f = rw (le-ltb (length v) 8 l) (f ∙ ap (λ (x : ℕ). with_eight x v (length v - 8)) e)
