-- From what the loops say to the promise.
use Prim.Native.Nat.{ℕ, ◌<◌, ◌≤◌}
use native.Mathlib.Omega.{arith}
use mathlib.Core.Path.{◌≡◌, refl, sym, ◌∙◌}
use mathlib.Core.Bool.{Bool, true, false, not}
use mathlib.Core.List.{List, [], ◌∷◌, append_assoc}
use mathlib.Core.Logic.{inl}
use lib.ListN.{length, take}
use lib.Seq.{take_at}
use borrow.Author.Tests.{lt-ltb, le-ltb, not-true, not-false}
use Rattle.paper.specs.declared.Report.{Report}
use Rattle.paper.specs.declared.Report.TheVariants.{Clear, Clash, Unreported}
use Rattle.paper.specs.Limits.{witness_words}
use Rattle.paper.specs.Policy.{Policy}
use Rattle.paper.specs.Table.{padded, entry_in, policy_in, entry_count, well_formed}
use Rattle.paper.specs.Match.{Moment}
use Rattle.paper.specs.Overlap.{BothMatch, NeverBoth, NotAfter, FirstClash, Says, entry_of_policy, witness_uid, witness_left}
use Rattle.paper.specs.Promises.{report_refusal, Reported}
use Rattle.std.specs.Prelude.{Some as Present}
use Rattle.std.proofs.lemmas.Option.{none-some}
use Rattle.overlap_meeting.specs.Written.{depth_of}
use Rattle.overlap_meeting.proofs.Best.{Some}
use Rattle.overlap.specs.Clash.{pair_stack, table_stack}
use Rattle.overlap.specs.Told.{NoneBefore, Clashing, FirstOfAll}
use Rattle.overlap.proofs.Clash.{clash_sound, clash_least}
use Rattle.overlap.proofs.Words.{depth_counted, entry_read, entries_counted, context_free, pair_read, stack_short}

-- ---- of a policy: two entries clash exactly where `pair_stack` finds a stack
pub no_stack_no_clash : (p : Policy) (i j : ℕ) → pair_stack p i j ≡ [] → NeverBoth p i j
unfolding pair_stack
no_stack_no_clash p i j e m both =
    let s = (clash_least p (entry_of_policy p i) (entry_of_policy p j) m both.one both.other).0 in
    rw e at s

pub none_before : (p : Policy) (i j : ℕ) (m : Moment) → BothMatch p i j m → NotAfter (pair_stack p i j) m.stack
unfolding pair_stack
none_before p i j m both = (clash_least p (entry_of_policy p i) (entry_of_policy p j) m both.one both.other).1

something_counted : (S : List ℕ) (r : ℕ) → Present r ≡ depth_of S → Some S
something_counted [] r e = absurd (none-some _ (sym e))
something_counted (x ∷ S) r e = tt

pub take_left : (S old new : List ℕ) (r : ℕ) → r ≡ length S → new ≡ witness_left S old → take r new ≡ S
unfolding witness_left padded
take_left S old new r e f = rw (f, append_assoc) (take_at S _ r (sym e))

module _ (ws : List ℕ) (good : well_formed ws ≡ true) where
  never_both : (i j : ℕ) → i < j → j < entry_count ws → table_stack ws i j ≡ [] → NeverBoth (policy_in ws) i j
  never_both i j h k e = no_stack_no_clash (policy_in ws) i j (pair_read ws good i j (omega arith) k ∙ e)

  module _ (old new : List ℕ) (i j depth : ℕ) (c : Clashing ws old new i j depth) where
    stack_held : take depth new ≡ table_stack ws i j
    stack_held = take_left (table_stack ws i j) old new depth (depth_counted (table_stack ws i j) depth c.written.counted) c.written.left

    lower_listed : i < entry_count ws
    lower_listed = let a = c.ordered in let b = c.listed in omega arith

    both_match : BothMatch (policy_in ws) i j (record { stack = table_stack ws i j; uid = witness_uid (entry_in ws i) (entry_in ws j); gid = 0; namespace = 0 })
    unfolding table_stack policy_in
    both_match =
        let some = something_counted (table_stack ws i j) depth c.written.counted in
        let s = clash_sound (policy_in ws) (entry_in ws i) (entry_in ws j) (context_free ws good i lower_listed) (context_free ws good j c.listed) some in
        record { one = rw (entry_read ws good i lower_listed) s.0; other = rw (entry_read ws good j c.listed) s.1 }

    least : (m : Moment) → BothMatch (policy_in ws) i j m → NotAfter (take depth new) m.stack
    least m both = rw (stack_held, ← (pair_read ws good i j lower_listed c.listed)) (none_before (policy_in ws) i j m both)

    first_clash : FirstClash (policy_in ws) old new i j depth (witness_uid (entry_in ws i) (entry_in ws j)) 0 0
    unfolding NoneBefore
    first_clash = record {
      ordered = c.ordered;
      listed = rw (entries_counted ws) c.listed;
      first = λ x y h k b. let l : y < entry_count ws = rw (entries_counted ws) at k in never_both x y h l (c.first x y h l b);
      both = rw stack_held both_match;
      least = least;
      short = let s = stack_short ws good i j lower_listed c.listed in let e = depth_counted (table_stack ws i j) depth c.written.counted in omega arith;
      left = rw stack_held c.written.left;
      uid_is = rw (entry_read ws good i lower_listed, entry_read ws good j c.listed);
      gid_is = refl;
      namespace_is = refl;
    }

  pair_says : (old new : List ℕ) (r : Report) → FirstOfAll ws old new r → Says (policy_in ws) old new r
  unfolding NoneBefore
  pair_says old new Clear t = (t.1, λ i j h k. let l : j < entry_count ws = rw (entries_counted ws) at k in never_both i j h l (t.0 i j h l (inl (omega arith))))
  pair_says old new (Clash i j depth uid gid namespace) t = rw (t.1, t.2, t.3) (first_clash old new i j depth t.0)
  pair_says old new (Unreported number) t = t

-- ---- the promise
module _ (ws : List ℕ) (t : Bool) (tested : t ≡ well_formed ws) where
  pub ill_formed : (old : List ℕ) → not t ≡ true → Reported ws old old (Unreported 20)
  unfolding Reported report_refusal
  ill_formed old h = rw (← tested, not-true t h) (refl, refl)

  module _ (h : not t ≡ false) where
    pub good : well_formed ws ≡ true
    good = sym tested ∙ not-false t h

    pub no_room : (old : List ℕ) → length old < witness_words → Reported ws old old (Unreported 40)
    unfolding Reported report_refusal
    no_room old l = rw (good, lt-ltb (length old) witness_words l) (refl, refl)

    module _ (old : List ℕ) (room : witness_words ≤ length old) where
      module _ (new : List ℕ) (r : Report) (found : FirstOfAll ws old new r) where
        pub reported : Reported ws old new r
        unfolding Reported report_refusal
        reported = rw (good, le-ltb (length old) witness_words room) (pair_says ws good old new r found)
