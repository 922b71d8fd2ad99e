-- Any two answers that meet the promise are equal: neither pair comes before the other, and of one pair neither stack.
use Prim.Native.Nat.{ℕ, zero, suc, ◌≤◌}
use native.Mathlib.Omega.{arith}
use native.Mathlib.Nat.{eq-or-lt_of_le}
use mathlib.Core.Logic.{inl, inr, ⊎_elim}
use mathlib.Core.Path.{◌≡◌, refl, sym, ap, ◌∙◌}
use mathlib.Core.List.{List}
use lib.ListN.{length, take, drop, length-append, length-take}
use lib.Seq.{length-take-le}
use Rattle.paper.specs.declared.Report.{Report}
use Rattle.paper.specs.declared.Report.TheVariants.{Clear, Clash, Unreported}
use Rattle.paper.specs.Limits.{witness_words}
use Rattle.paper.specs.Policy.{Policy}
use Rattle.paper.specs.Table.{padded, policy_in}
use Rattle.paper.specs.Overlap.{PairBefore, FirstClash, Says, witness_left}
use Rattle.paper.specs.Promises.{report_refusal, ReportedUnless, Reported}
use Rattle.laws.proofs.Tests.{le_or_lt}
use Rattle.laws.proofs.Stretches.{length_padded}
use Rattle.overlap_meeting.proofs.Order.{after_anti}

module _ (p : Policy) (old : List ℕ) where
  module _ (new : List ℕ) (i j depth uid gid namespace : ℕ) (c : FirstClash p old new i j depth uid gid namespace) where
    few_frames_lem : length (take depth new) ≤ witness_words
    few_frames_lem = let s = c.short in rw length-take (omega arith)

    counted : length (take depth new) ≡ depth
    unfolding witness_left
    counted =
        let l = ap length c.left ∙ length-append (padded witness_words (take depth new)) (drop witness_words old) in
        let k = length_padded witness_words (take depth new) few_frames_lem in
        let s = c.short in
        length-take-le depth new (omega arith)

  module _ (new new' : List ℕ) (i j depth uid gid namespace i' j' depth' uid' gid' namespace' : ℕ) (c : FirstClash p old new i j depth uid gid namespace)
      (c' : FirstClash p old new' i' j' depth' uid' gid' namespace') where
    not_before : PairBefore i' j' i j → ⊥
    not_before b = c.first i' j' c'.ordered c'.listed b _ c'.both

    not_after : PairBefore i j i' j' → ⊥
    not_after b = c'.first i j c.ordered c.listed b _ c.both

    same_lower : i ≡ i'
    same_lower =
        ⊎_elim (λ l. ⊎_elim (λ e. e) (λ m. absurd (not_after (inl m))) (eq-or-lt_of_le l))
        (λ m. absurd (not_before (inl m)))
        (le_or_lt i i')

    same_higher : j ≡ j'
    same_higher =
        ⊎_elim (λ l. ⊎_elim (λ e. e) (λ m. absurd (not_after (inr (same_lower, m)))) (eq-or-lt_of_le l))
        (λ m. absurd (not_before (inr (sym same_lower, m))))
        (le_or_lt j j')

    same_uid : uid ≡ uid'
    same_uid = c.uid_is ∙ (rw (same_lower, same_higher) (sym c'.uid_is))

    same_stack : take depth new ≡ take depth' new'
    same_stack =
        after_anti (take depth new) (take depth' new')
        (c.least (record { stack = take depth' new'; uid = uid'; gid = gid'; namespace = namespace' }) (rw (same_lower, same_higher) c'.both))
        (c'.least (record { stack = take depth new; uid = uid; gid = gid; namespace = namespace }) (rw (← same_lower, ← same_higher) c.both))

    same_depth : depth ≡ depth'
    same_depth = sym (counted new i j depth uid gid namespace c) ∙ (ap length same_stack ∙ counted new' i' j' depth' uid' gid' namespace' c')

    same_clash : (Clash i j depth uid gid namespace ≡ Clash i' j' depth' uid' gid' namespace') × (new ≡ new')
    same_clash =
        let e = same_lower in
        let f = same_higher in
        let g = same_depth in
        let u = same_uid in
        let v : gid ≡ gid' = c.gid_is ∙ sym c'.gid_is in
        let n : namespace ≡ namespace' = c.namespace_is ∙ sym c'.namespace_is in
        (cc, c.left ∙ (ap (λ (s : List ℕ). witness_left s old) same_stack ∙ sym c'.left))

  says_fixed : (new new' : List ℕ) (r r' : Report) → Says p old new r → Says p old new' r' → (r ≡ r') × (new ≡ new')
  says_fixed new new' Clear Clear a b = (refl, a.0 ∙ sym b.0)
  says_fixed new new' Clear (Clash i j depth uid gid namespace) a b = absurd (a.1 i j b.ordered b.listed _ b.both)
  says_fixed new new' Clear (Unreported number) a b = absurd b
  says_fixed new new' (Clash i j depth uid gid namespace) Clear a b = absurd (b.1 i j a.ordered a.listed _ a.both)
  says_fixed new new' (Clash i j depth uid gid namespace) (Clash i' j' depth' uid' gid' namespace') a b = same_clash new new' i j depth uid gid namespace i' j' depth' uid' gid' namespace' a b
  says_fixed new new' (Clash i j depth uid gid namespace) (Unreported number) a b = absurd b
  says_fixed new new' (Unreported number) r' a b = absurd a

pub reports_fixed : (table old new new' : List ℕ) (r r' : Report) → Reported table old new r → Reported table old new' r' → (r ≡ r') × (new ≡ new')
unfolding Reported
reports_fixed table old new new' r r' one other = go (report_refusal table old) one other
  where
    go : (n : ℕ) → ReportedUnless n (policy_in table) old new r → ReportedUnless n (policy_in table) old new' r' → (r ≡ r') × (new ≡ new')
    go zero a b = says_fixed (policy_in table) old new new' r r' a b
    go (suc n) a b = (a.0 ∙ sym b.0, a.1 ∙ sym b.1)
