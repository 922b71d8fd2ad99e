-- What the functions of this crate need, as plain laws: the facts that a place in the code has, and what is to be shown there.
use mathlib.Core.Path.{◌≡◌, refl}
use mathlib.Core.List.{List}
use Prim.Native.Nat.{ℕ, ◌+◌, ◌≤◌}
use native.Mathlib.Omega.{arith}
use native.Mathlib.Numerals.{add-one}
use native.Mathlib.Nat.{add_assoc}
use Rattle.paper.specs.Table.{reads_at, writes_at, entry_at, word, read_count, write_count, first_descriptor}

-- ---- descriptors counted

pub sum_none : (ws : List ℕ) → 0 ≡ first_descriptor ws 0
unfolding first_descriptor
sum_none ws = refl

pub sum_again : (ws : List ℕ) (k sum n : ℕ) → sum ≡ first_descriptor ws k → n ≡ read_count ws k + write_count ws k → sum + n ≡ first_descriptor ws (k + 1)
unfolding first_descriptor
sum_again ws k sum n e h = rw (add-one k, e, h, ← add_assoc)

pub sum_ends : (ws : List ℕ) (n k sum : ℕ) → n ≤ k → k ≤ n → sum ≡ first_descriptor ws k → sum ≡ first_descriptor ws n
sum_ends ws n k sum p q e = let h : k ≡ n = omega arith in rw h at e

pub both_counts :
    (ws : List ℕ) (k at reads writes : ℕ) → at ≡ entry_at k → reads ≡ word ws (at + reads_at) → writes ≡ word ws (at + writes_at)
    → reads + writes ≡ read_count ws k + write_count ws k
both_counts ws k at reads writes e p q = rw (p, q, e)
