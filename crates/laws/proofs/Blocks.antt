-- Blocks of one size that stand one behind the other, block k at `base + size * k`.
use mathlib.Core.Path.{◌≡◌}
use mathlib.Core.Bool.{Bool, true}
use mathlib.Core.Logic.{⊎_elim}
use mathlib.Core.List.{List, [], ◌∷◌, ◌++◌, map, flat_map}
use Prim.Native.Nat.{ℕ, zero, suc, ◌+◌, ◌*◌, ◌/◌, ◌%◌, ◌<◌, ◌≤◌}
use native.Mathlib.Nat.{eq-or-lt_of_le, mul-zero, mul-suc, mul_comm, mul-add, div-add-mod, mod-lt, le-div_iff_mul-le, div-lt_iff_lt-mul}
use native.Mathlib.Numerals.{add-one}
use native.Mathlib.Omega.{arith}
use lib.ListN.{length, get_or, length-append}
use Rattle.paper.specs.Common.{all_of, count_up}
use Rattle.laws.proofs.Tests.{both_left, both_right}
use Rattle.laws.proofs.Counting.{flat_map_append}
use Rattle.laws.proofs.Stretches.{Stands, word_at, stands_none, stands_left, stands_right, stands_both}

pub next_block : (base size k n : ℕ) → n ≡ size → base + size * k + n ≡ base + size * (k + 1)
next_block base size k n e = rw (e, add-one k, mul-suc) (omega arith)

module _ {A : Type 0} (words : A → List ℕ) where
  -- all blocks together are as long as so many of one size
  pub length_blocks : (good : A → Bool) (size : ℕ) → ((x : A) → good x ≡ true → length (words x) ≡ size) → (xs : List A) → all_of good xs ≡ true
      → length (flat_map words xs) ≡ size * length xs
  unfolding flat_map all_of
  length_blocks good size one [] p = rw mul-zero
  length_blocks good size one (x ∷ xs) p =
      let r : length (flat_map words xs) ≡ size * length xs = length_blocks good size one xs (both_right (good x) (all_of good xs) p) in
      rw (length-append, mul-suc) (omega (arith, one x (both_left (good x) (all_of good xs) p)))

  module _ (ws : List ℕ) where
    -- the blocks of two lists
    pub blocks_left : (at : ℕ) (xs ys : List A) → Stands ws at (flat_map words (xs ++ ys)) → Stands ws at (flat_map words xs)
    blocks_left at xs ys s = stands_left ws at (flat_map words xs) (flat_map words ys) (rw flat_map_append at s)

    pub blocks_right : (base size k : ℕ) (xs ys : List A) → length (flat_map words xs) ≡ size * length xs → Stands ws (base + size * k) (flat_map words (xs ++ ys))
        → Stands ws (base + size * (k + length xs)) (flat_map words ys)
    blocks_right base size k xs ys e s =
        stands_right ws (base + size * k) (base + size * (k + length xs)) (flat_map words xs) (flat_map words ys)
        (rw (e, mul-add size k (length xs)) (omega arith)) (rw flat_map_append at s)

  module _ (ws : List ℕ) (base size : ℕ) (back : ℕ → A) where
    -- the blocks that `back` counts up stand there if each does, and the other way round
    pub blocks_stand : (k n : ℕ) → ((i : ℕ) → k ≤ i → i < k + n → length (words (back i)) ≡ size)
        → ((i : ℕ) → k ≤ i → i < k + n → Stands ws (base + size * i) (words (back i))) → Stands ws (base + size * k) (flat_map words (map back (count_up k n)))
    unfolding flat_map count_up
    blocks_stand k zero long h = stands_none ws (base + size * k)
    blocks_stand k (suc n) long h =
        stands_both ws (base + size * k) (base + size * (k + 1)) (words (back k)) _ (next_block base size k _ (long k (omega arith) (omega arith)))
        (h k (omega arith) (omega arith))
        (blocks_stand (k + 1) n (λ i p q. long i (omega arith) (omega arith)) (λ i p q. h i (omega arith) (omega arith)))

    pub block_stands : (k n : ℕ) → ((i : ℕ) → k ≤ i → i < k + n → length (words (back i)) ≡ size)
        → Stands ws (base + size * k) (flat_map words (map back (count_up k n))) → (i : ℕ) → k ≤ i → i < k + n → Stands ws (base + size * i) (words (back i))
    unfolding flat_map count_up
    block_stands k zero long s i p q = absurd (omega arith)
    block_stands k (suc n) long s i p q =
        let next : Stands ws (base + size * (k + 1)) (flat_map words (map back (count_up (k + 1) n))) =
        stands_right ws (base + size * k) (base + size * (k + 1)) (words (back k)) _ (next_block base size k _ (long k (omega arith) (omega arith))) s in
        ⊎_elim
        (λ (e : k ≡ i). rw e at (stands_left ws (base + size * k) (words (back k)) _ s))
        (λ (m : k < i). block_stands (k + 1) n (λ j p q. long j (omega arith) (omega arith)) next i (omega arith) (omega arith))
        (eq-or-lt_of_le p)

-- where blocks n to m are zero, so are all their words
pub zero_blocks : (ws : List ℕ) (base size n m : ℕ) → 0 < size → ((k : ℕ) → n ≤ k → k < m → (i : ℕ) → i < size → get_or ws (base + size * k + i) 0 ≡ 0)
    → (i : ℕ) → size * n ≤ i → i < size * m → get_or ws (base + i) 0 ≡ 0
zero_blocks ws base size n m some h i p q =
    word_at ws (base + size * (i / size) + i % size) (base + i) 0 (omega (arith, div-add-mod i size))
    (h (i / size) ((le-div_iff_mul-le some).1 (rw mul_comm at p)) ((div-lt_iff_lt-mul some).1 (rw mul_comm at q)) (i % size) (mod-lt i some))
