-- Bits of a word: `bits_word` writes them, `w / 2 ^ k % 2` reads bit k.
use mathlib.Core.Path.{◌≡◌, sym, ap, ◌∙◌}
use mathlib.Core.Bool.{Bool, true, false, cond}
use mathlib.Core.List.{List, [], ◌∷◌}
use Prim.Native.Nat.{ℕ, zero, suc, ◌+◌, ◌*◌, ◌/◌, ◌%◌, ◌^◌, ◌<◌}
use native.Mathlib.Nat.{zero-div, div-div-eq-div-mul, pow-succ', pow-suc, div-one}
use native.Mathlib.Omega.{arith}
use borrow.Author.Tests.{eqb-true, eqb-false}
use lib.Dec.{eqb}
use lib.ListN.{length, get_or}
use Rattle.paper.specs.Table.{bits_word}

shift_more : (w k : ℕ) → w / 2 ^ suc k ≡ w / 2 / 2 ^ k
shift_more w k = ap (λ (x : ℕ). w / x) (pow-succ' 2 k) ∙ sym (div-div-eq-div-mul w 2 (2 ^ k))

lowest : (b : Bool) (x : ℕ) → eqb ((cond b 1 0 + 2 * x) % 2) 1 ≡ b
lowest true x = let e : (1 + 2 * x) % 2 ≡ 1 = omega arith in rw e
lowest false x = let e : (0 + 2 * x) % 2 ≡ 0 = omega arith in rw e

others : (b : Bool) (x : ℕ) → (cond b 1 0 + 2 * x) / 2 ≡ x
others true x = omega arith
others false x = omega arith

-- bit k is what was written there
pub bit_written : (bs : List Bool) (k : ℕ) → eqb (bits_word bs / 2 ^ k % 2) 1 ≡ get_or bs k false
unfolding bits_word
bit_written [] k = rw zero-div
bit_written (b ∷ bs) zero = rw div-one (lowest b (bits_word bs))
bit_written (b ∷ bs) (suc k) = rw (shift_more, others b (bits_word bs)) (bit_written bs k)

pub bits_below : (bs : List Bool) → bits_word bs < 2 ^ length bs
unfolding bits_word
bits_below [] = omega arith
bits_below (true ∷ bs) = omega (arith, bits_below bs, pow-suc 2 (length bs))
bits_below (false ∷ bs) = omega (arith, bits_below bs, pow-suc 2 (length bs))

odd : (b : Bool) (w : ℕ) → b ≡ eqb (w % 2) 1 → w ≡ cond b 1 0 + 2 * (w / 2)
odd true w e = omega (arith, eqb-true (w % 2) 1 (sym e))
odd false w e = let n : w % 2 ≡ 1 → ⊥ = eqb-false (w % 2) 1 (sym e) in omega arith

-- a word is what its bits write, if it has no others
pub bits_of_word : (bs : List Bool) (w : ℕ) → w < 2 ^ length bs → ((k : ℕ) → k < length bs → get_or bs k false ≡ eqb (w / 2 ^ k % 2) 1) → bits_word bs ≡ w
unfolding bits_word
bits_of_word [] w h bit = omega arith
bits_of_word (b ∷ bs) w h bit =
    let r : bits_word bs ≡ w / 2 = bits_of_word bs (w / 2) (omega (arith, pow-suc 2 (length bs))) (λ k l. rw (← shift_more w k) (bit (suc k) (omega arith))) in
    rw r (sym (odd b w (rw div-one at (bit 0 (omega arith)))))
