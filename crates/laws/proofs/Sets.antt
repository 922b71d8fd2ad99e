-- Sets of domains: what is in a set after one domain more, its length, and the size of its words.
use Prim.Native.Nat.{ℕ, zero, suc, ◌+◌, ◌*◌, ◌/◌, ◌%◌, ◌^◌, ◌<◌}
use mathlib.Core.Path.{◌≡◌, refl, sym}
use mathlib.Core.Bool.{Bool, true, false, cond, ◌||◌}
use mathlib.Core.List.{List}
use mathlib.Core.Logic.{dite}
use native.Mathlib.Decide.{ℕ_discrete}
use native.Mathlib.Nat.{pow-suc, div-one}
use native.Mathlib.Omega.{arith}
use lib.Dec.{eqb, eqb-suc-suc, eqb-zero-suc, eqb-suc-zero}
use lib.ListN.{length, get_or, set, length-set}
use lib.Seq.{get_or-set_same, get_or-set_other}
use borrow.Author.Tests.{eq-eqb, ne_eqb, eqb-false}
use Rattle.paper.specs.Table.{is_in, with_domain}
use Rattle.paper.proofs.Bits.{bit_suc, bit_fits}
use Rattle.laws.proofs.Tests.{eqb_same}
use Rattle.laws.proofs.Places.{below_after_set}

-- bit k of w
abbrev bit : ℕ → ℕ → Bool
bit w k = eqb (w / 2 ^ k % 2) 1

bit_of_half : (w k : ℕ) → bit w (suc k) ≡ bit (w / 2) k
bit_of_half w k = rw bit_suc

-- the law over the bit: once bit j is put on, bit k is on if it is that bit or was on
bit_put : (j k w : ℕ) → w / 2 ^ j % 2 ≡ 0 → bit (w + 2 ^ j) k ≡ (eqb k j || bit w k)
bit_put zero zero w z = let e : w % 2 ≡ 0 = rw div-one at z in eq-eqb ((w + 1) / 1 % 2) 1 (omega arith)
bit_put zero (suc k) w z =
    let e : w % 2 ≡ 0 = rw div-one at z in
    let h : (w + 1) / 2 ≡ w / 2 = omega arith in
    rw (bit_of_half (w + 1) k, bit_of_half w k, h, eqb-suc-zero)
bit_put (suc j) zero w z =
    let e : (w + 2 ^ suc j) / 1 % 2 ≡ w / 1 % 2 = omega (arith, pow-suc 2 j) in
    rw (e, eqb-zero-suc)
bit_put (suc j) (suc k) w z =
    let h : (w + 2 ^ suc j) / 2 ≡ w / 2 + 2 ^ j = omega (arith, pow-suc 2 j) in
    rw (bit_of_half (w + 2 ^ suc j) k, bit_of_half w k, h, eqb-suc-suc) (bit_put j k (w / 2) (rw bit_suc at z))

module _ (s : List ℕ) (d : ℕ) where
  -- the bit of a domain that is not in
  off : is_in s d ≡ false → get_or s (d / 16) 0 / 2 ^ (d % 16) % 2 ≡ 0
  unfolding is_in
  off h = let n : get_or s (d / 16) 0 / 2 ^ (d % 16) % 2 ≡ 1 → ⊥ = eqb-false (get_or s (d / 16) 0 / 2 ^ (d % 16) % 2) 1 h in omega arith

  abbrev put : ℕ
  put = get_or s (d / 16) 0 + 2 ^ (d % 16)

  in_after_put : (e : ℕ) → d < 16 * length s → is_in s d ≡ false → is_in (set s (d / 16) put) e ≡ (eqb e d || is_in s e)
  unfolding is_in
  in_after_put e l h = dite (ℕ_discrete (d / 16) (e / 16)) here there
    where
      here : d / 16 ≡ e / 16 → is_in (set s (d / 16) put) e ≡ (eqb e d || is_in s e)
      here q =
          let m : d / 16 < length s = omega arith in
          let same : eqb (e % 16) (d % 16) ≡ eqb e d = eqb_same (e % 16) (d % 16) e d (λ p. omega arith) (λ p. omega arith) in
          rw (← q, get_or-set_same s (d / 16) put 0 m, ← same) (bit_put (d % 16) (e % 16) (get_or s (d / 16) 0) (off h))

      there : (d / 16 ≡ e / 16 → ⊥) → is_in (set s (d / 16) put) e ≡ (eqb e d || is_in s e)
      there n = rw (get_or-set_other s (d / 16) (e / 16) put 0 (λ q. n (sym q)), ne_eqb e d (λ q. n (omega arith)))

  -- a domain is in after an insert when it is the one put in or was in
  pub contains_after_insert : (e : ℕ) → d < 16 * length s → is_in (with_domain s d) e ≡ (eqb e d || is_in s e)
  unfolding with_domain
  contains_after_insert e l = go (is_in s d) refl
    where
      go : (t : Bool) → is_in s d ≡ t → is_in (with_domain s d) e ≡ (eqb e d || is_in s e)
      go true h = rw h (dite (ℕ_discrete e d) (λ q. rw (eq-eqb e d q, q, h)) (λ n. rw (ne_eqb e d n)))
      go false h = rw h (in_after_put e l h)

  pub length_after_insert : length (with_domain s d) ≡ length s
  unfolding with_domain
  length_after_insert = go (is_in s d)
    where
      go : (t : Bool) → length (cond t s (set s (d / 16) put)) ≡ length s
      go true = refl
      go false = simp length-set

  pub words_after_insert : ((i : ℕ) → get_or s i 0 < 65536) → (i : ℕ) → get_or (with_domain s d) i 0 < 65536
  unfolding with_domain
  words_after_insert small i = go (is_in s d) refl
    where
      fits : is_in s d ≡ false → put < 65536
      fits h = bit_fits 16 (d % 16) (get_or s (d / 16) 0) (omega arith) (small (d / 16)) (off h)

      go : (t : Bool) → is_in s d ≡ t → get_or (with_domain s d) i 0 < 65536
      go true h = rw h (small i)
      go false h = rw h (below_after_set s 65536 (d / 16) put small (fits h) i)
