-- What the functions of this crate need, as plain laws: the facts that a place in the code has, and what is to be shown there.
use mathlib.Core.Path.{◌≡◌, refl, sym, ◌∙◌}
use mathlib.Core.Bool.{Bool, true, false, not, cond, ◌&&◌}
use mathlib.Core.Logic.{⊎_elim}
use mathlib.Core.List.{List}
use Prim.Native.Nat.{ℕ, ◌<◌, ◌≤◌}
use native.Mathlib.Omega.{arith}
use lib.Dec.{eqb, ltb}
use lib.ListN.{length, get_or}
use borrow.Author.Tests.{lt-ltb, le-ltb, le-leb, lt-leb}
use Rattle.paper.specs.declared.Access.{Access}
use Rattle.paper.specs.declared.Access.TheVariants.{Read, Write, Call, Return}
use Rattle.paper.specs.declared.Verdict.{Verdict}
use Rattle.paper.specs.declared.Verdict.TheVariants.{Inside, Violation, Unjudged}
use Rattle.paper.specs.Limits.{most_frames}
use Rattle.paper.specs.Table.{object_domains_in}
use Rattle.paper.specs.Table.{function_domains_in}
use Rattle.paper.specs.Table.{policy_in, well_formed}
use Rattle.paper.specs.Match.{top}
use Rattle.paper.specs.Verdict.{is_code, targets_of, target_number, target_listed, target_domain, inside_one_domain, verdict_of}
use Rattle.paper.specs.Promises.{access_for, judge_event, judge_answer}
use Rattle.laws.proofs.Tests.{le_or_lt}
use Rattle.paper.specs.Common.{within}
use Rattle.std.specs.Prelude.{Option, Some, None}
use Rattle.laws.proofs.Chains.{tested_false, tested_true}
use Rattle.judge_match.specs.declared.Ids.{Ids}
use Rattle.judge_match.specs.declared.Event.{Event}
use Rattle.judge_match.specs.Moments.{moment_of, Placed}
use Rattle.judge_entries.specs.Passes.{by_all_entries}

-- ---- targets

module _ (ws r : List ℕ) (a : Access) (b : Bool) (told : b ≡ is_code a) where
  pub code_targets : b ≡ true → r ≡ function_domains_in ws → r ≡ targets_of (policy_in ws) a
  unfolding targets_of policy_in
  code_targets h e = rw (← told, h) e

  pub data_targets : b ≡ false → r ≡ object_domains_in ws → r ≡ targets_of (policy_in ws) a
  unfolding targets_of policy_in
  data_targets h e = rw (← told, h) e

module _ (ws r : List ℕ) (a : Access) (n : ℕ) (numbered : n ≡ target_number a) (among : r ≡ targets_of (policy_in ws) a) where
  pub number_listed : ltb n (length r) ≡ target_listed (policy_in ws) a
  unfolding target_listed
  number_listed = rw (numbered, among)

  pub number_domain : (w : ℕ) → w ≡ get_or r n 0 → w ≡ target_domain (policy_in ws) a
  unfolding target_domain
  number_domain w h = rw (← numbered, ← among) h

pub data_not_inside : (a : Access) (b x : Bool) → b ≡ is_code a → not b ≡ true → false ≡ (is_code a && x)
data_not_inside a b x e h = rw (tested_false _ b e h)

pub code_inside : (a : Access) (b x : Bool) → b ≡ is_code a → not b ≡ false → x ≡ (is_code a && x)
code_inside a b x e h = rw (tested_true _ b e h)

-- ---- the verdict

module _ (ws s al : List ℕ) (a : Access) (ids allocated : Ids) where
  abbrev pub verdict_is : Verdict
  verdict_is = verdict_of (policy_in ws) a (moment_of s ids) (moment_of al allocated)

  module _ (fs : List ℕ) (f : ℕ) (runs : f ≡ top s) (functions : fs ≡ function_domains_in ws) where
    pub top_unlisted : length fs ≤ f → Violation 1 ≡ verdict_is
    unfolding verdict_of policy_in
    top_unlisted h = rw (← functions, ← runs, le-ltb f (length fs) h)

    module _ (listed : f < length fs) (r : Bool) (told : r ≡ target_listed (policy_in ws) a) where
      top_listed : ltb (top s) (length (function_domains_in ws)) ≡ true
      top_listed = rw (← functions, ← runs) (lt-ltb f (length fs) listed)

      pub target_unlisted : not r ≡ true → Violation 2 ≡ verdict_is
      unfolding verdict_of policy_in
      target_unlisted n = rw (top_listed, tested_false _ r told n)

      module _ (d : ℕ) (is-listed : not r ≡ false) (target : d ≡ target_domain (policy_in ws) a) where
        -- the event, with the domains that were read
        abbrev pub event_read : Event
        event_read = record { access = a; subject = get_or fs f 0; target = d; ids = ids; allocated = allocated }

        pub event_placed : 1 ≤ length s → Placed ws s event_read
        event_placed h =
            record {
              some = λ (z : length s ≡ 0). omega arith;
              listed = rw (runs, functions) at listed;
              subject = rw (functions, runs);
              target = target;
            }

        top_domain : get_or (function_domains_in ws) (top s) 0 ≡ get_or fs f 0
        top_domain = rw (functions, runs)

        pub stays_inside : (b : Bool) → b ≡ (is_code a && eqb d (get_or fs f 0)) → b ≡ true → Inside ≡ verdict_is
        unfolding verdict_of inside_one_domain policy_in
        stays_inside b e h = rw (top_listed, tested_true _ r told is-listed, top_domain, ← target, ← e, h)

        pub entries_decide :
            (b : Bool) (v : Verdict) → b ≡ (is_code a && eqb d (get_or fs f 0)) → b ≡ false
            → v ≡ by_all_entries ws s event_read (moment_of al allocated) → v ≡ verdict_is
        unfolding verdict_of inside_one_domain
        entries_decide b v e h q =
            let l : ltb (top s) (length (policy_in ws).functions) ≡ true = unfold policy_in in top_listed in
            let t : get_or (policy_in ws).functions (top s) 0 ≡ get_or fs f 0 = unfold policy_in in top_domain in
            rw (l, tested_true _ r told is-listed, t, ← target, ← e, h) q

-- ---- the operation

module _ (o t : ℕ) where
  abbrev accessed : Option Access
  accessed = cond (within 1 4 o) (Some (access_for o t)) None

  pub is_read : o ≡ 1 → Some (Read (record { 0 = t })) ≡ accessed
  unfolding access_for
  is_read h = rw h refl

  pub is_write_lem : o ≡ 2 → Some (Write (record { 0 = t })) ≡ accessed
  unfolding access_for
  is_write_lem h = rw h refl

  pub is_call : o ≡ 3 → Some (Call (record { 0 = t })) ≡ accessed
  unfolding access_for
  is_call h = rw h refl

  pub is_return : o ≡ 4 → Some (Return (record { 0 = t })) ≡ accessed
  unfolding access_for
  is_return h = rw h refl

  pub is_none : (o ≡ 1 → ⊥) → (o ≡ 2 → ⊥) → (o ≡ 3 → ⊥) → (o ≡ 4 → ⊥) → None ≡ accessed
  is_none n m k l =
      ⊎_elim (λ (z : 1 ≤ o). let past : 4 < o = omega arith in rw (le-leb 1 o z, lt-leb o 4 past) refl) (λ z. rw (lt-leb 1 o z) refl) (le_or_lt 1 o)

-- ---- the refusals

module _ (ws s al : List ℕ) (o t : ℕ) (ids allocated : Ids) where
  abbrev pub event_is : Verdict
  event_is = judge_event (policy_in ws) o t (moment_of s ids) (moment_of al allocated)

  pub no_frame : length s ≡ 0 → Unjudged 21 ≡ event_is
  unfolding judge_event
  no_frame h = rw h refl

  module _ (some : length s ≡ 0 → ⊥) where
    pub too_many_frames : most_frames < length s → Unjudged 21 ≡ event_is
    unfolding judge_event
    too_many_frames h = let l : 1 ≤ length s = omega arith in rw (le-leb 1 (length s) l, lt-leb (length s) most_frames h) refl

    module _ (fits : length s ≤ most_frames) where
      pub allocation_refused : most_frames < length al → Unjudged 22 ≡ event_is
      unfolding judge_event
      allocation_refused h =
          let l : 1 ≤ length s = omega arith in
          rw (le-leb 1 (length s) l, le-leb (length s) most_frames fits, lt-ltb most_frames (length al) h) refl

      module _ (few : length al ≤ most_frames) (r : Option Access) (told : r ≡ accessed o t) where
        judged : event_is ≡ cond (not (within 1 4 o)) (Unjudged 23) (verdict_of (policy_in ws) (access_for o t) (moment_of s ids) (moment_of al allocated))
        unfolding judge_event
        judged =
            let l : 1 ≤ length s = omega arith in
            rw (le-leb 1 (length s) l, le-leb (length s) most_frames fits, le-ltb most_frames (length al) few) refl

        pub operation_refused : r ≡ None → Unjudged 23 ≡ event_is
        operation_refused h = sym (judged ∙ go (within 1 4 o) (sym told ∙ h))
          where
            go : (b : Bool) → cond b (Some (access_for o t)) None ≡ None
                → cond (not b) (Unjudged 23) (verdict_of (policy_in ws) (access_for o t) (moment_of s ids) (moment_of al allocated)) ≡ Unjudged 23
            go true e = cc
            go false e = refl

        pub event_judged :
            (a : Access) (v : Verdict) → r ≡ Some a → v ≡ verdict_of (policy_in ws) a (moment_of s ids) (moment_of al allocated) → v ≡ event_is
        event_judged a v h e = e ∙ sym (judged ∙ go (within 1 4 o) (sym told ∙ h))
          where
            go : (b : Bool) → cond b (Some (access_for o t)) None ≡ Some a
                → cond (not b) (Unjudged 23) (verdict_of (policy_in ws) (access_for o t) (moment_of s ids) (moment_of al allocated))
                ≡ verdict_of (policy_in ws) a (moment_of s ids) (moment_of al allocated)
            go true e = let same : access_for o t ≡ a = cc in rw same
            go false e = cc

  pub table_refused : (r : Bool) → r ≡ well_formed ws → not r ≡ true → Unjudged 20 ≡ judge_answer ws o t (moment_of s ids) (moment_of al allocated)
  unfolding judge_answer
  table_refused r e h = rw (tested_false _ r e h)

  pub table_judged : (r : Bool) (v : Verdict) → r ≡ well_formed ws → not r ≡ false → v ≡ event_is → v ≡ judge_answer ws o t (moment_of s ids) (moment_of al allocated)
  unfolding judge_answer
  table_judged r v e h q = rw (tested_true _ r e h) q
