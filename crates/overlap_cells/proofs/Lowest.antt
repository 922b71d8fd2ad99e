-- The lowest function of each domain: a loop from the last function down stores each over those after it.
use Prim.Native.Nat.{ℕ, zero, suc, ◌+◌, ◌-◌, ◌<◌, ◌≤◌}
use native.Mathlib.Omega.{arith}
use native.Mathlib.Nat.{add-zero, zero-add}
use mathlib.Core.Logic.{◌⊎◌, inl, inr}
use mathlib.Core.Path.{◌≡◌, refl, sym, ◌∙◌}
use mathlib.Core.List.{List, [], ◌∷◌}
use lib.ListN.{length, get_or, drop, set, replicate, drop_of_length-le, get_or-eq_default}
use lib.Seq.{get_or-set_same, get_or-set_other}
use borrow.Author.Tests.{eq-eqb, ne_eqb, lt-ltb, le-ltb}
use Rattle.std.specs.Prelude.{Option, Some, None}
use Rattle.paper.specs.Limits.{most_domains}
use Rattle.laws.proofs.Places.{drop_more}
use Rattle.laws.proofs.Tests.{same_or_not}
use Rattle.overlap_cells.specs.Best.{lowest_in, alone, frame_of, InDomains, Lows}

-- the lowest of the functions from k on
unfoldable pub LowsFrom : List ℕ → List (Option ℕ) → ℕ → Type 0
LowsFrom F L k = (d : ℕ) → frame_of (get_or L d None) ≡ alone F (k + lowest_in (drop k F) d)

-- ---- a function of a number
module _ (F : List ℕ) (f : ℕ) where
  pub unlisted : length F ≤ f → [] ≡ alone F f
  unfolding alone
  unlisted h = rw (le-ltb f (length F) h)

  listed : f < length F → f ∷ [] ≡ alone F f
  unfolding alone
  listed h = rw (lt-ltb f (length F) h)

-- ---- the loop
none_yet : (n d : ℕ) → get_or {A = Option ℕ} (replicate n None) d None ≡ None
none_yet zero d = refl
none_yet (suc n) zero = refl
none_yet (suc n) (suc d) = none_yet n d

pub lows_at_end : (F : List ℕ) (n : ℕ) → LowsFrom F (replicate n None) (length F)
unfolding LowsFrom lowest_in frame_of
lows_at_end F n d =
    let none : drop (length F) F ≡ [] = drop_of_length-le F {i = length F} (omega arith) in
    rw (none_yet n d, none) (unlisted F (length F + 0) (omega arith))

module _ (F : List ℕ) (L : List (Option ℕ)) (k : ℕ) (so_far : LowsFrom F L k) where
  pub lows_done : k ≤ 0 → Lows F L
  unfolding LowsFrom Lows
  lows_done h d = let e : k ≡ 0 = omega arith in let z = zero-add (lowest_in F d) in (rw (e, z) at (so_far d))

  pub lows_before : 0 < k → k ≤ length F → length L ≡ most_domains → InDomains F → LowsFrom F (set L (get_or F (k - 1) 0) (Some (k - 1))) (k - 1)
  unfolding LowsFrom lowest_in InDomains frame_of
  lows_before h l n inside d = go (inside (k - 1) (omega arith)) (same_or_not d (get_or F (k - 1) 0))
    where
      go : get_or F (k - 1) 0 < most_domains → (d ≡ get_or F (k - 1) 0) ⊎ (d ≡ get_or F (k - 1) 0 → ⊥) →
          frame_of (get_or (set L (get_or F (k - 1) 0) (Some (k - 1))) d None) ≡ alone F (k - 1 + lowest_in (drop (k - 1) F) d)
      go m (inl e) =
          rw (drop_more F (k - 1) (omega arith), eq-eqb (get_or F (k - 1) 0) d (sym e), e, get_or-set_same L (get_or F (k - 1) 0) (Some (k - 1)) None (omega arith), add-zero)
          (listed F (k - 1) (omega arith))
      go m (inr e) =
          let s : k - 1 + (lowest_in (drop (k - 1 + 1) F) d + 1) ≡ k + lowest_in (drop (k - 1 + 1) F) d = omega arith in
          let r : k - 1 + 1 ≡ k = omega arith in
          rw (drop_more F (k - 1) (omega arith), ne_eqb (get_or F (k - 1) 0) d (λ f. e (sym f)), get_or-set_other L (get_or F (k - 1) 0) d (Some (k - 1)) None e, s, r) (so_far d)

-- ---- what is read
module _ (F : List ℕ) (L : List (Option ℕ)) (d : ℕ) (r : Option ℕ) (lows : Lows F L) where
  pub low_read : r ≡ get_or L d None → frame_of r ≡ alone F (lowest_in F d)
  unfolding Lows
  low_read e = rw e (lows d)

  pub low_past_end : length L ≤ d → r ≡ None → frame_of r ≡ alone F (lowest_in F d)
  low_past_end h e = low_read (e ∙ sym (get_or-eq_default L None h))

pub domain_below : (F : List ℕ) (k : ℕ) → InDomains F → 0 < k → k ≤ length F → get_or F (k - 1) 0 < most_domains
unfolding InDomains
domain_below F k inside h l = inside (k - 1) (omega arith)
