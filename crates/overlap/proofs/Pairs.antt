-- How the pairs that do not clash go on, up to the first that does.
use Prim.Native.Nat.{ℕ, ◌+◌, ◌<◌, ◌≤◌}
use native.Mathlib.Omega.{arith}
use native.Mathlib.Nat.{eq-or-lt_of_le}
use mathlib.Core.Logic.{inl, inr, ⊎_elim}
use mathlib.Core.Path.{◌≡◌, refl, sym, subst₂, ◌∙◌}
use mathlib.Core.List.{List, [], ◌∷◌}
use lib.ListN.{drop, replicate}
use lib.Seq.{drop_at}
use Rattle.paper.specs.declared.Report.{Report}
use Rattle.paper.specs.declared.Report.TheVariants.{Clash}
use Rattle.paper.specs.Limits.{most_entries, witness_words}
use Rattle.paper.specs.Table.{well_formed, padded, entry_in, entry_count}
use Rattle.paper.specs.Overlap.{witness_uid, witness_left}
use Rattle.overlap_meeting.specs.Written.{Written, depth_of}
use Rattle.std.specs.Prelude.{Option, Some, None, true}
use Rattle.std.proofs.lemmas.Option.{none-some}
use Rattle.overlap.specs.declared.found.Found.{Found}
use Rattle.overlap.specs.Clash.{table_stack}
use Rattle.overlap.specs.Told.{NoneBefore, PastKept, Clashing, FirstAfter, FirstOfAll}
use Rattle.overlap.proofs.Words.{depth_counted, few_entries_lem, stack_short}

-- ---- the words past the witness
pub left_same : (S old mid new : List ℕ) → new ≡ witness_left S mid → PastKept old mid → new ≡ witness_left S old
unfolding witness_left
left_same S old mid new e f = rw (← f) e

written_same : (S old mid new : List ℕ) (r : Option ℕ) → Written S mid new r → PastKept old mid → Written S old new r
written_same S old mid new r w f = record { counted = w.counted; left = left_same S old mid new w.left f }

past_zeros : (mid : List ℕ) → PastKept mid (witness_left [] mid)
unfolding witness_left padded
past_zeros mid = drop_at (replicate witness_words 0) (drop witness_words mid) witness_words refl

nothing_counted : (S : List ℕ) → None ≡ depth_of S → S ≡ []
nothing_counted [] e = refl
nothing_counted (x ∷ S) e = absurd (none-some _ e)

pub past_none : (S old mid new : List ℕ) (r : Option ℕ) → Written S mid new r → r ≡ None → PastKept old mid → PastKept old new
past_none S old mid new r w z f = rw (w.left, nothing_counted S (sym z ∙ w.counted)) (past_zeros mid ∙ f)

-- ---- the pairs before
module _ (ws : List ℕ) where
  pub none_start : NoneBefore ws 0 0
  unfolding NoneBefore
  none_start x y l h (inl b) = absurd (omega arith)
  none_start x y l h (inr b) = absurd (let e = b.1 in omega arith)

  pub none_row : (i : ℕ) → NoneBefore ws i 0 → NoneBefore ws i (i + 1)
  unfolding NoneBefore
  none_row i p x y l h (inl b) = p x y l h (inl b)
  none_row i p x y l h (inr b) = absurd (let e = b.0 in let f = b.1 in omega arith)

  pub none_more : (i j : ℕ) (r : Option ℕ) (old new : List ℕ) → NoneBefore ws i j → Written (table_stack ws i j) old new r → r ≡ None → NoneBefore ws i (j + 1)
  unfolding NoneBefore
  none_more i j r old new p w z x y l h (inl b) = p x y l h (inl b)
  none_more i j r old new p w z x y l h (inr b) =
      ⊎_elim (λ q. subst₂ (λ (x y : ℕ). table_stack ws x y ≡ []) (sym b.0) (sym q) (nothing_counted (table_stack ws i j) (sym z ∙ w.counted)))
      (λ q. p x y l h (inr (b.0, q)))
      (eq-or-lt_of_le {n = y} {m = j} (let f = b.1 in omega arith))

  pub none_done : (i j n : ℕ) → NoneBefore ws i j → n ≡ entry_count ws → n ≤ j → NoneBefore ws i (entry_count ws)
  unfolding NoneBefore
  none_done i j n p e k x y l h (inl b) = p x y l h (inl b)
  none_done i j n p e k x y l h (inr b) = p x y l h (inr (b.0, omega arith))

  next_row : (i : ℕ) → NoneBefore ws i (entry_count ws) → NoneBefore ws (i + 1) 0
  unfolding NoneBefore
  next_row i p x y l h (inl b) = ⊎_elim (λ q. p x y l h (inr (q, h))) (λ q. p x y l h (inl q)) (eq-or-lt_of_le {n = x} {m = i} (omega arith))
  next_row i p x y l h (inr b) = absurd (let f = b.1 in omega arith)

  pub none_end : (i n : ℕ) → NoneBefore ws i 0 → n ≡ entry_count ws → n ≤ i → NoneBefore ws (entry_count ws) 0
  unfolding NoneBefore
  none_end i n p e k x y l h (inl b) = p x y l h (inl (omega arith))
  none_end i n p e k x y l h (inr b) = absurd (let f = b.1 in omega arith)

  -- ---- a pair that clashes
  pub clashing : (old mid new : List ℕ) (i j n r : ℕ) (t : Option ℕ) → i < j → j < n → n ≡ entry_count ws → t ≡ Some r → Written (table_stack ws i j) mid new t →
      PastKept old mid → NoneBefore ws i j → Clashing ws old new i j r
  clashing old mid new i j n r t a b c s w g first =
      let held : Written (table_stack ws i j) mid new (Some r) = rw s at w in
      record { ordered = a; listed = omega arith; written = written_same (table_stack ws i j) old mid new (Some r) held g; first = first }

  module _ (mid new : List ℕ) (i : ℕ) where
    module _ (t : Option Found) (after : FirstAfter ws mid new i t) (e : t ≡ None) where
      pub none_next : NoneBefore ws (i + 1) 0
      none_next = next_row i (rw e at after).0

      pub past_next : (old : List ℕ) → PastKept old mid → PastKept old new
      past_next old f = (rw e at after).1 ∙ f

    module _ (found : Found) (t : Option Found) (after : FirstAfter ws mid new i t) (e : t ≡ Some found) where
      clash : Clashing ws mid new i found.higher found.depth
      clash = rw e at after

      module _ (good : well_formed ws ≡ true) where
        pub higher_listed : found.higher ≤ most_entries
        higher_listed = let few = few_entries_lem ws good in let l = clash.listed in omega arith

        pub lower_listed : i ≤ most_entries
        lower_listed = let few = few_entries_lem ws good in let a = clash.ordered in let l = clash.listed in omega arith

        pub few_frames_lem : found.depth ≤ witness_words
        few_frames_lem =
            let a = clash.ordered in
            let l = clash.listed in
            let s = stack_short ws good i found.higher (omega arith) l in
            let c = depth_counted (table_stack ws i found.higher) found.depth clash.written.counted in
            omega arith

      pub clash_told : (old : List ℕ) (r : Report) → PastKept old mid → r ≡ Clash i found.higher found.depth (witness_uid (entry_in ws i) (entry_in ws found.higher)) 0 0 →
          FirstOfAll ws old new r
      clash_told old r f g =
          rw g (
            record {
              ordered = clash.ordered;
              listed = clash.listed;
              written = written_same (table_stack ws i found.higher) old mid new (Some found.depth) clash.written f;
              first = clash.first;
            },
            refl,
            refl,
            refl,
          )
