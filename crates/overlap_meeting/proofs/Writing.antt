-- Zeros to the witness, and over them a stack that is a chain of cells, K the chain of each cell.
use Prim.Native.Nat.{ℕ, zero, suc, ◌+◌, ◌-◌, ◌<◌, ◌≤◌}
use native.Mathlib.Omega.{arith}
use native.Mathlib.Numerals.{add-one}
use mathlib.Core.Path.{◌≡◌, refl, ap, ◌∙◌}
use mathlib.Core.List.{List, [], ◌∷◌, ◌++◌, map, append_assoc, append-nil}
use lib.Dec.{ltb}
use lib.ListN.{length, take, drop, set, replicate, length-replicate, length-take}
use lib.Seq.{take_all, drop-append-le}
use borrow.Author.Tests.{lt-ltb}
use Rattle.std.specs.Prelude.{Option}
use Rattle.std.specs.Bool.{then_some}
use Rattle.paper.specs.Limits.{witness_words}
use Rattle.paper.specs.Table.{element_in, padded}
use Rattle.paper.specs.Overlap.{witness_left}
use Rattle.laws.proofs.Places.{drop_zeros}
use Rattle.overlap_cells.specs.declared.chain.Chain.{Chain}
use Rattle.overlap_cells.specs.Best.{best_stack}
use Rattle.overlap_cells.specs.Cells.{cell_at, stack_of, chain_stack, Short, Filled}
use Rattle.overlap_cells.proofs.Chains.{chain_more, cell_read, chain_length, no_frames}
use Rattle.overlap_meeting.specs.Written.{Written, depth_of}

pub witness_cleared : (O W : List ℕ) → witness_words ≤ length O → W ≡ replicate (length (take witness_words O)) 0 → W ++ drop witness_words O ≡ witness_left [] O
unfolding witness_left padded
witness_cleared O W room e = let n : length (take witness_words O) ≡ witness_words = rw length-take (omega arith) in rw (e, n)

-- ---- the loop: the frames written so far, and those that are left
take_set : (W : List ℕ) (i f : ℕ) → i < length W → take (suc i) (set W i f) ≡ take i W ++ (f ∷ [])
take_set [] i f h = absurd (omega arith)
take_set (x ∷ W) zero f h = refl
take_set (x ∷ W) (suc i) f h = ap (λ (r : List ℕ). x ∷ r) (take_set W i f (omega arith))

module _ (K : List Chain) (S W : List ℕ) (n i f c : ℕ) (so_far : S ≡ take i W ++ stack_of K (n - i) f c) where
  pub frame_written : i < n → length W ≡ n → (y : Chain) → y ≡ cell_at K c → S ≡ take (i + 1) (set W i f) ++ stack_of K (n - (i + 1)) y.base y.rest
  frame_written h l y e =
      let s : n - i - 1 ≡ n - (i + 1) = omega arith in
      rw (add-one i, take_set W i f (omega arith), ← (add-one i), e, cell_read K c (n - (i + 1)), append_assoc, ← s) (rw (chain_more K (n - i) f c (λ z. omega arith)) at so_far)

  pub frames_written : n ≤ i → length W ≡ n → (R : List ℕ) → W ++ R ≡ S ++ R
  frames_written h l R =
      let z : n - i ≡ 0 = omega arith in
      let t : take i W ≡ W = take_all i W (omega arith) in
      let e = rw (z, t, no_frames K f c, append-nil) at so_far in
      rw e

pub items_counted : (W O : List ℕ) (n : ℕ) → n ≤ length O → length W ≡ length (take n O) → length W ≡ n
items_counted W O n h e = rw length-take at e ∙ omega arith

pub no_frame_written : (K : List Chain) (W : List ℕ) (n f c : ℕ) → stack_of K n f c ≡ take 0 W ++ stack_of K (n - 0) f c
no_frame_written K W n f c = let s : n - 0 ≡ n = omega arith in rw s

-- ---- n frames over the first zeros
over_zeros : (S old mid new : List ℕ) (n : ℕ) → length S ≡ n → n ≤ witness_words → mid ≡ witness_left [] old → new ≡ S ++ drop n mid → new ≡ witness_left S old
unfolding witness_left padded
over_zeros S old mid new n e h f g =
    g ∙ rw (f, drop-append-le n (replicate witness_words 0) (drop witness_words old) (rw length-replicate h), drop_zeros witness_words n, e, append_assoc)

counted_lem : (S : List ℕ) (n : ℕ) → length S ≡ n → then_some (ltb 0 n) n ≡ depth_of S
counted_lem [] n e = rw (← e)
counted_lem (x ∷ S) n e = rw (← e, lt-ltb 0 (suc (length S)) (omega arith))

module _ (F : List ℕ) (d : ℕ) (P Q : List ℕ) (K : List Chain) (done : Filled F d P Q K 0) where
  pub best_written : (x : Chain) (old mid new : List ℕ) (r : Option ℕ) → x ≡ cell_at K 0 → Short K → mid ≡ witness_left [] old →
      new ≡ chain_stack K x ++ drop x.frames mid → r ≡ then_some (ltb 0 x.frames) x.frames →
      Written (best_stack F d (map element_in P) (map element_in Q)) old new r
  unfolding Filled
  best_written x old mid new r e short f g h =
      let few : x.frames ≤ witness_words = rw e (short 0) in
      let n = chain_length K x.frames x.base x.rest in
      let best : chain_stack K x ≡ best_stack F d (map element_in P) (map element_in Q) = rw (e, cell_read K 0 (cell_at K 0).frames) (done 0 (omega arith) (omega arith)) in
      rw (← best) (record { counted = h ∙ counted_lem (chain_stack K x) x.frames n; left = over_zeros (chain_stack K x) old mid new x.frames n few f g })
