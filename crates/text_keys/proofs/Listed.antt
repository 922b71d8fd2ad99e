-- The code's rows are the paper's, by computing each.
use mathlib.Core.Path.{◌≡◌, sym, ap, ◌∙◌}
use mathlib.Core.Bool.{false}
use mathlib.Core.List.{[]}
use Prim.Native.Nat.{ℕ, zero, suc, ◌≤◌}
use native.Mathlib.Omega.{arith}
use lib.ListN.{get_or-eq_default}
use Rattle.paper.specs.Listing.{row, listing, row_at}
use Rattle.paper.specs.declared.Value.TheVariants.{Keys}
use Rattle.text_keys.specs.Rows.{Said, told}

-- the row of a place, where the match found which place it is
pub row_is : (p k : ℕ) (r s : Said) → p ≡ k → r ≡ s → s ≡ told (row_at k) → r ≡ told (row_at p)
row_is p k r s e f g = f ∙ g ∙ ap (λ (n : ℕ). told (row_at n)) (sym e)

-- past the listing
pub row_past : (p : ℕ) (r : Said) → 31 ≤ p → r ≡ record { key = []; value = Keys; block = []; next = []; last = false } → r ≡ told (row_at p)
unfolding row_at listing
row_past p r h e = e ∙ ap told (sym (get_or-eq_default listing (row "" Keys [] [] false) {n = p} h))

-- a number that is none of the first k is at least k
abbrev pub NoneOf : ℕ → ℕ → Type 0
NoneOf zero p = Unit
NoneOf (suc k) p = NoneOf k p × (p ≡ k → ⊥)

pub none_of : (k p : ℕ) → NoneOf k p → k ≤ p
none_of zero p h = omega arith
none_of (suc k) p h = go (none_of k p h.0) h.1
  where
    go : k ≤ p → (p ≡ k → ⊥) → suc k ≤ p
    go a b = omega arith
