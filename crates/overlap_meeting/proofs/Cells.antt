-- What a cell holds, from the cells after it; K is the chain of each cell.
use Prim.Native.Nat.{ℕ, zero, suc, ◌+◌, ◌-◌, ◌/◌, ◌%◌, ◌<◌, ◌≤◌}
use native.Mathlib.Omega.{arith}
use native.Mathlib.Nat.{eq-or-lt_of_le}
use mathlib.Core.Logic.{◌⊎◌, inl, inr, ⊎_elim}
use mathlib.Core.Path.{◌≡◌, refl, sym, ap, subst, subst₂, ◌∙◌}
use mathlib.Core.Bool.{Bool, true, false}
use mathlib.Core.List.{List, [], ◌∷◌, map}
use lib.ListN.{length, drop, length-drop, length-map}
use lib.Seq.{drop-drop}
use Rattle.paper.specs.Limits.{most_elements, witness_words}
use Rattle.paper.specs.Policy.{Element}
use Rattle.paper.specs.Match.{lies_in}
use Rattle.paper.specs.Table.{element_in}
use Rattle.laws.proofs.Tests.{le_or_lt}
use Rattle.laws.proofs.Elements.{at_end_lem}
use Rattle.overlap_cells.specs.declared.chain.Chain.{Chain}
use Rattle.overlap_cells.specs.declared.firsts.Firsts.{Firsts}
use Rattle.overlap_cells.specs.declared.firsts.Firsts.TheVariants.{BothAll, OneAll, OtherAll, Same, Apart}
use Rattle.overlap_cells.specs.Best.{better, in_front, best_with, row, best_by, comes_first, lowest_in, alone, best_stack}
use Rattle.overlap_cells.specs.Places.{places, filled, cells}
use Rattle.overlap_cells.specs.Cells.{pattern_from, firsts_from, cell_at, stack_at, stack_of, chain_stack, cell_stack, from_cells, Onward, Filled}
use Rattle.overlap_meeting.proofs.Order.{best_short}
use Rattle.overlap_cells.proofs.Chains.{cell_read, chain_length, better_none}
use Rattle.overlap_cells.proofs.Beginnings.{other_ended}

-- ---- by the first elements
module _ (K : List Chain) (low r : List ℕ) (x : Firsts) (k : ℕ) where
  abbrev best : List ℕ
  best = from_cells x low K k

  at_cell : (c : ℕ) (y : Chain) → y ≡ cell_at K c → chain_stack K y ≡ cell_stack K c
  at_cell c y e = rw e (cell_read K c (cell_at K c).frames)

  module _ (t : Bool) (u v : Chain) (e : x ≡ BothAll t) (a : u ≡ cell_at K (k + places)) (b : v ≡ cell_at K (k + 1)) where
    pub cell_both_all : t ≡ false → r ≡ better comes_first (chain_stack K u) (chain_stack K v) → r ≡ best
    unfolding best_with
    cell_both_all f h = rw (e, f, better_none, ← (at_cell (k + places) u a), ← (at_cell (k + 1) v b)) h

    pub cell_alone : (z : List ℕ) → t ≡ true → r ≡ better comes_first z low → z ≡ better comes_first (chain_stack K u) (chain_stack K v) → r ≡ best
    unfolding best_with
    cell_alone z f h g = rw (e, f, ← (at_cell (k + places) u a), ← (at_cell (k + 1) v b), ← g) h

  module _ (f : ℕ) (t : Bool) where
    pub cell_one_all : (u : Chain) (v : List ℕ) → x ≡ OneAll f t → r ≡ better comes_first (chain_stack K u) v →
        u ≡ cell_at K (k + places) → v ≡ in_front t f (cell_stack K (k + 1)) → r ≡ best
    unfolding best_with
    cell_one_all u v e h a b = rw (e, ← (at_cell (k + places) u a), ← b) h

    pub cell_other_all : (u : Chain) (v : List ℕ) → x ≡ OtherAll f t → r ≡ better comes_first (chain_stack K u) v →
        u ≡ cell_at K (k + 1) → v ≡ in_front t f (cell_stack K (k + places)) → r ≡ best
    unfolding best_with
    cell_other_all u v e h a b = rw (e, ← (at_cell (k + 1) u a), ← b) h

    pub cell_same : x ≡ Same f t → r ≡ in_front t f (cell_stack K (k + places + 1)) → r ≡ best
    unfolding best_with
    cell_same e h = rw e h

  pub cell_apart : x ≡ Apart → r ≡ [] → r ≡ best
  unfolding best_with
  cell_apart e h = rw e h

-- ---- the best stack, one place on
best_step : (F : List ℕ) (d : ℕ) (P Q : List Element) →
    best_stack F d P Q
    ≡ best_with comes_first (alone F (lowest_in F d)) (firsts_from F (lies_in F d) P Q) (best_stack F d (drop 1 P) (drop 1 Q)) (best_stack F d (drop 1 P) Q) (best_stack F d P (drop 1 Q))
unfolding best_stack best_by row firsts_from best_with
best_step F d [] Q = refl
best_step F d (a ∷ P) [] = refl
best_step F d (a ∷ P) (b ∷ Q) = refl

tail_mapped : (l : List ℕ) → drop 1 (map element_in l) ≡ map element_in (drop 1 l)
tail_mapped [] = refl
tail_mapped (x ∷ l) = refl

pattern_tail : (p : List ℕ) (i : ℕ) → drop 1 (pattern_from i p) ≡ pattern_from (i + 1) p
pattern_tail p i = tail_mapped (drop i p) ∙ ap (map element_in) (drop-drop 1 i p)

module _ (F : List ℕ) (d : ℕ) (P Q : List ℕ) where
  -- of the patterns from places i and j on: the best stack, and the first elements
  abbrev from : ℕ → ℕ → List ℕ
  from i j = best_stack F d (pattern_from i P) (pattern_from j Q)

  abbrev firsts : ℕ → ℕ → Firsts
  firsts i j = firsts_from F (lies_in F d) (pattern_from i P) (pattern_from j Q)

  from_step : (i j : ℕ) → from i j ≡ best_with comes_first (alone F (lowest_in F d)) (firsts i j) (from (i + 1) (j + 1)) (from (i + 1) j) (from i (j + 1))
  from_step i j = rw (← (pattern_tail P i), ← (pattern_tail Q j)) (best_step F d (pattern_from i P) (pattern_from j Q))

  from_short : length P ≤ most_elements → length Q ≤ most_elements → (i j : ℕ) → length (from i j) ≤ witness_words
  from_short hp hq i j =
      let s = best_short F d (pattern_from i P) (pattern_from j Q) in
      let u = length-map (drop i P) element_in in
      let v = length-map (drop j Q) element_in in
      let u' = length-drop i P in
      let v' = length-drop j Q in
      omega arith

  apart_none : (i j : ℕ) → firsts i j ≡ Apart → from i j ≡ []
  unfolding best_with
  apart_none i j e = rw (from_step i j, e)

-- ---- one more cell
module _ (F : List ℕ) (d : ℕ) (P Q : List ℕ) (K : List Chain) (k : ℕ) (after : Filled F d P Q K (k + 1)) (hk : k < filled) (hq : length Q ≤ most_elements) where
  -- the stack of a cell after k
  found : (c x y : ℕ) → k < c → c < cells → c / places ≡ x → c % places ≡ y → cell_stack K c ≡ from F d P Q x y
  unfolding Filled
  found c x y l h u v = subst₂ (λ (x y : ℕ). cell_stack K c ≡ from F d P Q x y) u v (after c (omega arith) h)

  -- past the last place of Q there is none, whatever the cells hold
  cell_right : (x : Firsts) (r low : List ℕ) → x ≡ firsts F d P Q (k / places) (k % places) → low ≡ alone F (lowest_in F d) →
      r ≡ from_cells x low K k → r ≡ from F d P Q (k / places) (k % places)
  unfolding best_with
  cell_right x r low e f g = ⊎_elim at_end_of_row inside_row (le_or_lt most_elements (k % places))
    where
      at_end_of_row : most_elements ≤ k % places → r ≡ from F d P Q (k / places) (k % places)
      at_end_of_row h =
          let n : firsts F d P Q (k / places) (k % places) ≡ Apart = sym (other_ended F (lies_in F d) P Q (k / places) (k % places) (omega arith)) in
          g ∙ (rw (e, n) (sym (apart_none F d P Q (k / places) (k % places) n)))

      inside_row : k % places < most_elements → r ≡ from F d P Q (k / places) (k % places)
      inside_row h =
          let both = found (k + places + 1) (k / places + 1) (k % places + 1) (omega arith) (omega arith) (omega arith) (omega arith) in
          let one = found (k + places) (k / places + 1) (k % places) (omega arith) (omega arith) (omega arith) (omega arith) in
          let other = found (k + 1) (k / places) (k % places + 1) (omega arith) (omega arith) (omega arith) (omega arith) in
          g ∙ (rw (e, f, both, one, other) (sym (from_step F d P Q (k / places) (k % places))))

-- a store at k leaves the stacks of the cells after k as they are
module _ (K M : List Chain) (k : ℕ) (y : Chain) (there : cell_at M k ≡ y) (others : (c : ℕ) → (c ≡ k → ⊥) → cell_at M c ≡ cell_at K c) (onward : Onward K) where
  stable : (x n : ℕ) → k < x → x < cells → stack_at M x n ≡ stack_at K x n
  unfolding stack_at
  stable x zero l b = refl
  stable x (suc n) l b =
      let e = others x (λ e. omega arith) in
      let a = onward x b in
      rw e (ap (λ (r : List ℕ). (cell_at K x).base ∷ r) (stable (cell_at K x).rest n (omega arith) (cell_at K x).inside))

  stable_cell : (x : ℕ) → k < x → x < cells → cell_stack M x ≡ cell_stack K x
  stable_cell x l b = let e = others x (λ e. omega arith) in rw e (stable x (cell_at K x).frames l b)

  stored : (n : ℕ) → k < y.rest → stack_at M k n ≡ stack_of K n y.base y.rest
  unfolding stack_at stack_of
  stored zero l = refl
  stored (suc n) l = rw there (ap (λ (r : List ℕ). y.base ∷ r) (stable y.rest n l y.inside))

  stable_chain : k < y.rest → cell_stack M k ≡ chain_stack K y
  stable_chain l = rw there (stored y.frames l)

-- ---- the loop over the cells
module _ (F : List ℕ) (d : ℕ) (P Q : List ℕ) (K : List Chain) where
  pub none_filled : length P ≤ most_elements → ((c : ℕ) → cell_stack K c ≡ []) → Filled F d P Q K filled
  unfolding best_stack best_by Filled
  none_filled hp none c l h = rw (none c, at_end_lem P (c / places) (omega arith))

  module _ (k : ℕ) (so_far : Filled F d P Q K k) where
    pub all_filled : k ≤ 0 → Filled F d P Q K 0
    all_filled h = let e : k ≡ 0 = omega arith in rw e at so_far

    module _ (x : Firsts) (low : List ℕ) (y : Chain) (h : 0 < k) (l : k ≤ filled) (hp : length P ≤ most_elements) (hq : length Q ≤ most_elements)
        (e : x ≡ firsts_from F (lies_in F d) (pattern_from ((k - 1) / places) P) (pattern_from ((k - 1) % places) Q)) (f : low ≡ alone F (lowest_in F d))
        (g : chain_stack K y ≡ from_cells x low K (k - 1)) where
      this : chain_stack K y ≡ from F d P Q ((k - 1) / places) ((k - 1) % places)
      this =
          let s : k - 1 + 1 ≡ k = omega arith in
          let after : Filled F d P Q K (k - 1 + 1) = rw s so_far in
          cell_right F d P Q K (k - 1) after (omega arith) hq x (chain_stack K y) low e f g

      pub cell_short : y.frames ≤ witness_words
      cell_short =
          let few = ap length this in
          let frames = chain_length K y.frames y.base y.rest in
          let short = from_short F d P Q hp hq ((k - 1) / places) ((k - 1) % places) in
          omega arith

      pub cell_filled : (M : List Chain) → cell_at M (k - 1) ≡ y → ((c : ℕ) → (c ≡ k - 1 → ⊥) → cell_at M c ≡ cell_at K c) → Onward K → k - 1 < y.rest →
          Filled F d P Q M (k - 1)
      unfolding Filled
      cell_filled M there others onward far c m b = go (eq-or-lt_of_le m)
        where
          go : (k - 1 ≡ c) ⊎ (k - 1 < c) → cell_stack M c ≡ from F d P Q (c / places) (c % places)
          go (inl z) = subst (λ (c : ℕ). cell_stack M c ≡ from F d P Q (c / places) (c % places)) z (stable_chain K M (k - 1) y there others onward far ∙ this)
          go (inr z) = stable_cell K M (k - 1) y there others onward c z b ∙ so_far c (omega arith) b

    -- a cell is filled, where what the store says is known before the cell's chain is
    pub cell_stored : (x : Firsts) (low : List ℕ) (M : List Chain) (y : Chain) → cell_at M (k - 1) ≡ y → ((c : ℕ) → (c ≡ k - 1 → ⊥) → cell_at M c ≡ cell_at K c) → Onward K →
        0 < k → k ≤ filled → length P ≤ most_elements → length Q ≤ most_elements →
        x ≡ firsts_from F (lies_in F d) (pattern_from ((k - 1) / places) P) (pattern_from ((k - 1) % places) Q) → low ≡ alone F (lowest_in F d) →
        chain_stack K y ≡ from_cells x low K (k - 1) → k - 1 < y.rest → Filled F d P Q M (k - 1)
    cell_stored x low M y there others onward h l hp hq e f g far = cell_filled x low y h l hp hq e f g M there others onward far
