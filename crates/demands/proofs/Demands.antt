-- The user's three demands, in the user's order and words, over what the public functions promise: the contract of `read` is that it answers
-- `read_answer` and leaves `read_leaves`, of `fill` that it answers `fill_answer` and leaves `fill_leaves`, of `judge` that it answers `judge_answer`, of
-- `overlap` that its answer and the witness are `Reported`, of `name` that it answers `lookup_answer`. No contract asks anything of its caller, so
-- what is shown here for all lists of numbers holds of every call. What stands behind each line is shown where its name comes from.
use mathlib.Core.Path.{◌≡◌}
use mathlib.Core.Logic.{◌↔◌}
use mathlib.Core.List.{List}
use mathlib.Core.Bool.{Bool, true}
use Prim.Native.Nat.{ℕ, ◌<◌, ◌≤◌}
use lib.ListN.{length, take}
use borrow.Author.Tests.{le-ltb}
use Rattle.paper.specs.declared.Reading.TheVariants.{Accepted}
use Rattle.paper.specs.declared.Filling.TheVariants.{Written}
use Rattle.paper.specs.declared.Report.{Report}
use Rattle.paper.specs.declared.Report.TheVariants.{Clear}
use Rattle.paper.specs.declared.Map.{Map}
use Rattle.paper.specs.Limits.{text_bytes, table_words, witness_words}
use Rattle.paper.specs.Page.{Field, fields}
use Rattle.paper.specs.Policy.{policy_of}
use Rattle.paper.specs.Match.{Moment}
use Rattle.paper.specs.Overlap.{NeverBoth}
use Rattle.paper.specs.Promises.{file_of, read_answer, read_leaves, fill_answer, fill_leaves, access_for, judge_answer, Reported, lookup_answer}
use Rattle.laws_file.specs.AtFault.{RulesHold}
use Rattle.judge.specs.Demand.{Judged, Allowed, MayHappen}
use Rattle.judge.proofs.Demand.{demand_2}
use Rattle.laws_file.proofs.Accepted.{accepted_exactly}
use Rattle.laws_file.proofs.Reader.{read_formed, read_policy, read_says, read_clear}
use Rattle.laws_filled.proofs.RoundTrip.{same_reading}
use Rattle.laws_office.specs.Office.{office, no_return, FurtherOn}
use Rattle.laws_office.proofs.Office.{office_answer, office_table, office_filling, office_filled, office_bytes, office_place}
use Rattle.demands.specs.Answered.{Reads, Fills, Judges, Reports, Names, ClashNamed}
use Rattle.demands.specs.Before.{without_namespace, judged_before}
use Rattle.demands.proofs.Answered.{reader_answers, filler_answers, judge_answers, report_answers, lookup_answers, clash_named}
use Rattle.demands.proofs.Before.{verdicts_before}

-- ---- 1. "Any bytes, any table, any event get an answer; no caller has to have checked anything. Bad input is refused with document 01's number and
-- line, and the lent buffers then hold exactly what it says."

pub demand_1_read : (text table : List ℕ) → Reads text table (read_answer text table) (read_leaves text table)
demand_1_read = reader_answers

pub demand_1_fill : (text out : List ℕ) → Fills text out (fill_answer text out) (fill_leaves text out)
demand_1_fill = filler_answers

pub demand_1_judge : (table : List ℕ) (operation target : ℕ) (m allocation : Moment)
    → Judges table operation target m allocation (judge_answer table operation target m allocation)
demand_1_judge = judge_answers

pub demand_1_report : (table old new : List ℕ) (r : Report) → Reported table old new r → Reports table old new r
demand_1_report = report_answers

pub demand_1_name : (text : List ℕ) (which : Map) (domain : ℕ) → Names text which domain (lookup_answer text which domain)
demand_1_name = lookup_answers

-- ---- 2. "A file is accepted exactly when document 01's rules hold;"

pub demand_2_accepted : (text table : List ℕ) → table_words ≤ length table → (read_answer text table ≡ Accepted) ↔ RulesHold text
unfolding read_answer
demand_2_accepted text table room = rw (le-ltb (length table) table_words room) (accepted_exactly text)

-- "table, filled text and every verdict agree with them." The table and the filled text: `demand_1_read`, `demand_1_fill`. The verdicts: "An access is
-- allowed exactly when both ends are listed and it stays inside one subject domain as a call or return, or some entry that matches subject, stack,
-- uid and gid grants it."

pub demand_2_verdict : (text table : List ℕ) (file : List Field) → file_of text ≡ fields file → table_words ≤ length table
    → (operation target : ℕ) (m allocation : Moment) → Judged operation m allocation
    → Allowed (judge_answer (read_leaves text table) operation target m allocation) ↔ MayHappen (policy_of file) (access_for operation target) m allocation
demand_2_verdict text table file read room operation target m allocation judged =
    rw (read_policy text table file read room) at (demand_2 (read_leaves text table) operation target m allocation (read_formed text table file read room) judged)

-- "Reading the filled text, where the filler didn't refuse, gives the same table."

pub demand_2_round_trip : (text out table : List ℕ) (size : ℕ) → fill_answer text out ≡ Written size
    → (read_answer (take size (fill_leaves text out)) table ≡ read_answer text table) × (read_leaves (take size (fill_leaves text out)) table ≡ read_leaves text table)
demand_2_round_trip text out table size filled = same_reading text out size filled table

-- ---- 3. "For any accepted file and enough witness room, the overlap report says clear exactly when no moment (a stack of one or more functions, of any
-- length, a uid, a gid) is matched by two different entries; else it names the first such pair in file order and writes a moment of at most 30
-- functions that both match." 30 is document 02 h's, for 32; by document 02 k the stack is the shortest, and of these the lowest from the base up

module _ (text table : List ℕ) (file : List Field) (read : file_of text ≡ fields file) (room : table_words ≤ length table)
    (old new : List ℕ) (r : Report) (enough : witness_words ≤ length old) (reported : Reported (read_leaves text table) old new r) where
  pub demand_3_clear : (r ≡ Clear) ↔ ((i j : ℕ) → i < j → j < length (policy_of file).entries → NeverBoth (policy_of file) i j)
  demand_3_clear = read_clear text table file read room old new r enough reported

  pub demand_3_clash : (r ≡ Clear → ⊥) → ClashNamed (policy_of file) old new r
  demand_3_clash = clash_named (policy_of file) old new r (read_says text table file read room old new r enough reported)

-- ---- "Office files end lines with CR LF." A text without CR, and the same with CR LF for LF at the end of the lines that `withReturn` names: the
-- same answer, the same table, the same filled text, and each name with the same bytes, further on by one for each CR before it.

module _ (withReturn : ℕ → Bool) (text : List ℕ) (plain : no_return text ≡ true) (short : length (office withReturn text) ≤ text_bytes) where
  pub office_read : (table : List ℕ)
      → (read_answer (office withReturn text) table ≡ read_answer text table) × (read_leaves (office withReturn text) table ≡ read_leaves text table)
  office_read table = (office_answer withReturn text plain short table, office_table withReturn text plain short table)

  pub office_fill : (out : List ℕ) → (fill_answer (office withReturn text) out ≡ fill_answer text out) × (fill_leaves (office withReturn text) out ≡ fill_leaves text out)
  office_fill out = (office_filling withReturn text plain short out, office_filled withReturn text plain short out)

  pub office_names : (map : Map) (domain : ℕ)
      → ((lookup_answer (office withReturn text) map domain).bytes ≡ (lookup_answer text map domain).bytes)
      × FurtherOn (office withReturn text) (lookup_answer (office withReturn text) map domain) (lookup_answer text map domain)
  office_names map domain = (office_bytes withReturn text plain short map domain, office_place withReturn text plain short map domain)

-- ---- "Depot as namespace." A file without the key has the verdicts that document 01 gave it before, whatever the namespaces of the event.

pub without_namespace_lem : (text table : List ℕ) (file : List Field) → file_of text ≡ fields file → without_namespace file ≡ true → table_words ≤ length table
    → (operation target : ℕ) (m allocation : Moment)
    → judge_answer (read_leaves text table) operation target m allocation ≡ judged_before (policy_of file) operation target m allocation
without_namespace_lem = verdicts_before
