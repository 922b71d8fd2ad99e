-- The numbers of a report and of a name have room in the packed number: a well-formed table has few entries, the report's stack is short, and so is a name.
use Prim.Native.Nat.{ℕ, zero, suc, ◌<◌, ◌≤◌}
use mathlib.Core.Path.{◌≡◌, refl}
use mathlib.Core.Bool.{Bool, true, false, cond, ◌||◌}
use mathlib.Core.List.{List}
use native.Mathlib.Omega.{arith}
use lib.Dec.{eqb, ltb}
use lib.ListN.{length}
use Rattle.paper.specs.declared.Report.{Report}
use Rattle.paper.specs.declared.Report.TheVariants.{Clear, Clash, Unreported}
use Rattle.paper.specs.declared.Map.TheVariants.{Objects, Subjects}
use Rattle.paper.specs.Common.{is_empty}
use Rattle.paper.specs.Limits.{most_entries, witness_words}
use Rattle.paper.specs.Policy.{Entry}
use Rattle.paper.specs.Table.{policy_in, well_formed}
use Rattle.paper.specs.Overlap.{is_user, witness_uid, Says}
use Rattle.paper.specs.Lookup.{Stretch, front}
use Rattle.paper.specs.Promises.{report_refusal, ReportedUnless, Reported, lookup_answer, lookup_numbered}
use Rattle.paper.specs.Answers.{name_parts, PartsFit, ReportFits}
use Rattle.laws_table.proofs.Formed.{formed}
use Rattle.laws_table.proofs.Held.{formed_proper}
use Rattle.file_lookup.specs.Names.{Bounded}
use Rattle.file_lookup.proofs.Found.{front_bounded, name_bounded}

uid_few : (a b : Entry) → witness_uid a b ≤ 1
unfolding witness_uid
uid_few a b = go (is_user a.context.uid || is_user b.context.uid)
  where
    go : (t : Bool) → cond t 1 0 ≤ 1
    go true = omega arith
    go false = omega arith

-- the refusal of a table that is well formed or not, and of a witness that is short or not
abbrev refusal : Bool → Bool → ℕ
refusal good short = cond good (cond short 40 0) 20

refusal_fits : (good short : Bool) → refusal good short ≤ 40
refusal_fits true true = omega arith
refusal_fits true false = omega arith
refusal_fits false short = omega arith

unrefused : (good short : Bool) → refusal good short ≡ 0 → good ≡ true
unrefused true short e = refl
unrefused false short e = absurd (omega arith)

module _ (table old new : List ℕ) where
  said_fits : well_formed table ≡ true → (r : Report) → Says (policy_in table) old new r → ReportFits r
  said_fits good (Unreported number) h = absurd h
  said_fits good (Clash lower higher depth uid gid namespace) h =
      let few : length (policy_in table).entries ≤ most_entries = (formed_proper table (formed table good)).entries in
      let one : uid ≤ 1 = rw h.uid_is (uid_few _ _) in
      (omega arith, omega arith, omega arith, one, h.gid_is, h.namespace_is)
  said_fits good Clear h = tt

  unless_fits : (n : ℕ) → report_refusal table old ≡ n → (r : Report) → ReportedUnless n (policy_in table) old new r → ReportFits r
  unfolding report_refusal
  unless_fits zero e r h = said_fits (unrefused (well_formed table) (ltb (length old) witness_words) e) r h
  unless_fits (suc n) e r h = rw h.0 (omega (arith, refusal_fits (well_formed table) (ltb (length old) witness_words)))

  pub report_fits : (r : Report) → Reported table old new r → ReportFits r
  unfolding Reported
  report_fits r h = unless_fits (report_refusal table old) refl r h

-- ---- a name

bounded_fits : (t : List ℕ) (s : Stretch) → Bounded t s → PartsFit (name_parts s)
unfolding name_parts
bounded_fits t s b = (class_fits (is_empty s.bytes), omega (arith, b.short), omega (arith, b.low))
  where
    class_fits : (empty : Bool) → cond empty 1 2 < 65536
    class_fits true = omega arith
    class_fits false = omega arith

-- of every text, map's number and domain's number
pub name_fits : (t : List ℕ) (number d : ℕ) → PartsFit (name_parts (lookup_numbered t number d))
unfolding lookup_numbered
name_fits t number d = bounded_fits t _ (numbered (eqb number 1) (eqb number 2))
  where
    numbered : (objects subjects : Bool) → Bounded t (cond objects (lookup_answer t Objects d) (cond subjects (lookup_answer t Subjects d) front))
    numbered true subjects = name_bounded t Objects d
    numbered false true = name_bounded t Subjects d
    numbered false false = front_bounded t
