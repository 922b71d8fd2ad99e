-- Where the words of links stand: before the words of the names to come, apart from the other words, and each of one name alone.
use mathlib.Core.Path.{◌≡◌, refl}
use mathlib.Core.Bool.{Bool, true, false, cond}
use mathlib.Core.List.{List}
use Prim.Native.Nat.{ℕ, zero, suc, ◌+◌, ◌*◌, ◌-◌, ◌/◌, ◌%◌, ◌^◌, ◌<◌, ◌≤◌}
use native.Mathlib.Omega.{arith}
use lib.Dec.{leb}
use lib.ListN.{length, get_or}
use Rattle.file_index.specs.Words.{heads_at, links_at, links, name_at}
use Rattle.file_index.specs.Buckets.{turn_of, bucket_of, LinkOf}
use Rattle.file_index.proofs.Steps.{bucket_below}

pub link_before : (k w : ℕ) → LinkOf k w → w < name_at k
unfolding LinkOf
link_before zero w p = p.1
link_before (suc k) w p = let a : w < name_at (k + 1) = p.1 in omega arith

pub link_behind : (k w : ℕ) → LinkOf (suc k) w → name_at k + links_at ≤ w
unfolding LinkOf
link_behind k w p = p.0

pub link_first : (k w : ℕ) → LinkOf k w → heads_at ≤ w
unfolding LinkOf
link_first zero w p = p.0
link_first (suc k) w p = omega (arith, link_behind k w p)

pub link_apart : (k w j i : ℕ) → LinkOf k w → i < links_at → name_at j + i ≡ w → ⊥
unfolding LinkOf
link_apart zero w j i p l e = omega (arith, link_before zero w p)
link_apart (suc k) w j i p l e = omega (arith, link_before (suc k) w p, link_behind k w p)

pub link_one : (k m w : ℕ) → LinkOf k w → LinkOf m w → k ≡ m
link_one zero zero w p q = refl
link_one zero (suc m) w p q = absurd (omega (arith, link_before zero w p, link_behind m w q))
link_one (suc k) zero w p q = absurd (omega (arith, link_before zero w q, link_behind k w p))
link_one (suc k) (suc m) w p q = omega (arith, link_before (suc k) w p, link_behind k w p, link_before (suc m) w q, link_behind m w q)

pub link_head : (h : ℕ) → LinkOf 0 (heads_at + bucket_of h)
unfolding LinkOf
link_head h = (omega arith, omega (arith, bucket_below h))

turn_within : (x : List ℕ) (d : ℕ) → turn_of x d < links
unfolding turn_of
turn_within x d = go (leb (length x) (d / 4)) (get_or x (length x - 1 - d / 4) 0 / 2 ^ (d % 4 * 2))
  where
    go : (b : Bool) (m : ℕ) → cond b 0 (m % 4) < links
    go true m = omega arith
    go false m = omega arith

-- the word at which a way goes on is a link of the name that it passed
pub link_next : (x : List ℕ) (d i : ℕ) → 0 < i → LinkOf i (name_at (i - 1) + links_at + turn_of x d)
unfolding LinkOf
link_next x d zero l = absurd (omega arith)
link_next x d (suc k) l = (omega arith, omega (arith, turn_within x d))
