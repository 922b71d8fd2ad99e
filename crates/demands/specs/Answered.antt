-- What it is that a call gets an answer, case by case, and what the lent buffers then hold (demand 1; document 01, "Numbers that come back").
use Rattle.std.specs.Prelude.{ℕ, ◌<◌, ◌≤◌, ◌≡◌, ◌⊎◌, true, false, List, ◌++◌, length, get_or, drop, replicate}
use Rattle.paper.specs.declared.Reading.{Reading}
use Rattle.paper.specs.declared.Reading.TheVariants.{Accepted, Unread}
use Rattle.paper.specs.declared.Filling.{Filling}
use Rattle.paper.specs.declared.Filling.TheVariants.{Written, Unfilled}
use Rattle.paper.specs.declared.Verdict.{Verdict}
use Rattle.paper.specs.declared.Verdict.TheVariants.{Unjudged}
use Rattle.paper.specs.declared.Report.{Report}
use Rattle.paper.specs.declared.Report.TheVariants.{Clash, Unreported}
use Rattle.paper.specs.declared.Map.{Map}
use Rattle.paper.specs.Limits.{text_bytes, table_words, most_frames, witness_words}
use Rattle.paper.specs.Text.{no_line}
use Rattle.paper.specs.Page.{Field, no_field, fields}
use Rattle.paper.specs.Entries.{fields_at}
use Rattle.paper.specs.Policy.{Policy, policy_of}
use Rattle.paper.specs.Table.{policy_in, well_formed}
use Rattle.paper.specs.Match.{Moment}
use Rattle.paper.specs.Verdict.{verdict_of}
use Rattle.paper.specs.Overlap.{FirstClash, Says}
use Rattle.paper.specs.Filled.{filled_text}
use Rattle.paper.specs.Lookup.{Stretch, front, stretch_of, names_of}
use Rattle.paper.specs.Promises.{file_of, access_for}
use Rattle.laws_file.specs.AtFault.{RulesHold, RefusedRightly}
use Rattle.judge.specs.Demand.{Judged}
use Rattle.file_lookup.specs.Names.{count_of, NoSuchName, NameStands}

-- ---- the reader: its answer, and the table as it leaves it

-- 1: "table under 16,384 words"; "nothing changed"
pub record TableTooShort (table : List ℕ) (answer : Reading) (left : List ℕ) : Type 0 where
  pub short : length table < table_words
  pub told : answer ≡ Unread 1 no_line
  pub unchanged : left ≡ table

-- 2 to 11: the first number in the reader's order and the smallest line at fault; "first 16,384 words zero", and those past them as they were
pub record TextRefused (t table : List ℕ) (answer : Reading) (left : List ℕ) : Type 0 where
  pub room : table_words ≤ length table
  pub number : ℕ
  pub line : ℕ
  pub rightly : RefusedRightly t number line
  pub told : answer ≡ Unread number line
  pub zeroed : left ≡ replicate table_words 0 ++ drop table_words table

-- accepted: the rules hold, and the table is well formed and holds the file's policy; "Words past 16,384 .. never change"
pub record TextRead (t table : List ℕ) (answer : Reading) (left : List ℕ) : Type 0 where
  pub room : table_words ≤ length table
  pub rules : RulesHold t
  pub told : answer ≡ Accepted
  pub file : List Field
  pub read : file_of t ≡ fields file
  pub formed : well_formed left ≡ true
  pub holds : policy_in left ≡ policy_of file
  pub past : drop table_words left ≡ drop table_words table

-- one of the three
abbrev pub Reads : List ℕ → List ℕ → Reading → List ℕ → Type 0
Reads t table answer left = TableTooShort table answer left ⊎ (TextRefused t table answer left ⊎ TextRead t table answer left)

-- ---- the filler: its answer, and the output as it leaves it

-- 31: "filled text over 65,536 bytes"
pub record FilledTooLong (file : List Field) (number : ℕ) : Type 0 where
  pub number_31 : number ≡ 31
  pub long : text_bytes < length (filled_text file)

-- 30: "output shorter than the filled text", and no 31
pub record OutputTooShort (file : List Field) (out : List ℕ) (number : ℕ) : Type 0 where
  pub number_30 : number ≡ 30
  pub not_long : length (filled_text file) ≤ text_bytes
  pub short : length out < length (filled_text file)

-- a file that is accepted and can't be filled: 31 and 30 have line 0
pub record NotFilled (t out : List ℕ) (number line : ℕ) : Type 0 where
  pub file : List Field
  pub read : file_of t ≡ fields file
  pub lineless : line ≡ no_line
  pub why : FilledTooLong file number ⊎ OutputTooShort file out number

-- "The filler gives 2 to 11 as the reader does, then 31, then 30, and on refusal its output is untouched"
pub record FillingRefused (t out : List ℕ) (answer : Filling) (left : List ℕ) : Type 0 where
  pub number : ℕ
  pub line : ℕ
  pub why : RefusedRightly t number line ⊎ NotFilled t out number line
  pub told : answer ≡ Unfilled number line
  pub untouched : left ≡ out

-- filled: the filled text stands at the front, and "bytes past the filled text, never change"
pub record TextFilled (t out : List ℕ) (answer : Filling) (left : List ℕ) : Type 0 where
  pub rules : RulesHold t
  pub file : List Field
  pub read : file_of t ≡ fields file
  pub told : answer ≡ Written (length (filled_text file))
  pub short : length (filled_text file) ≤ text_bytes
  pub fits : length (filled_text file) ≤ length out
  pub written : left ≡ filled_text file ++ drop (length (filled_text file)) out

-- one of the two
abbrev pub Fills : List ℕ → List ℕ → Filling → List ℕ → Type 0
Fills t out answer left = FillingRefused t out answer left ⊎ TextFilled t out answer left

-- ---- the judge: it changes nothing

-- 21: "stack of 0 or over 64 frames"
pub record StackRefused (m : Moment) (answer : Verdict) : Type 0 where
  pub bad : (length m.stack < 1) ⊎ (most_frames < length m.stack)
  pub told : answer ≡ Unjudged 21

-- 22: "allocation stack over 64 frames", and no 21
pub record AllocationRefused (m allocation : Moment) (answer : Verdict) : Type 0 where
  pub some_frame : 1 ≤ length m.stack
  pub few_frames : length m.stack ≤ most_frames
  pub bad : most_frames < length allocation.stack
  pub told : answer ≡ Unjudged 22

-- 23: "operation not 1 to 4", and neither 21 nor 22
pub record OperationRefused (operation : ℕ) (m allocation : Moment) (answer : Verdict) : Type 0 where
  pub some_frame : 1 ≤ length m.stack
  pub few_frames : length m.stack ≤ most_frames
  pub few_allocation_frames : length allocation.stack ≤ most_frames
  pub bad : (operation < 1) ⊎ (4 < operation)
  pub told : answer ≡ Unjudged 23

-- none of these: a verdict of the policy that the table holds
pub record VerdictGiven (table : List ℕ) (operation target : ℕ) (m allocation : Moment) (answer : Verdict) : Type 0 where
  pub judged : Judged operation m allocation
  pub told : answer ≡ verdict_of (policy_in table) (access_for operation target) m allocation

-- what becomes of an event under a table that is well formed
abbrev pub JudgesEvent : List ℕ → ℕ → ℕ → Moment → Moment → Verdict → Type 0
JudgesEvent table operation target m allocation answer =
    StackRefused m answer
    ⊎ (AllocationRefused m allocation answer
    ⊎ (OperationRefused operation m allocation answer ⊎ VerdictGiven table operation target m allocation answer))

-- 20: "table not well formed", before the event is looked at
abbrev pub Judges : List ℕ → ℕ → ℕ → Moment → Moment → Verdict → Type 0
Judges table operation target m allocation answer =
    ((well_formed table ≡ false) × (answer ≡ Unjudged 20)) ⊎ ((well_formed table ≡ true) × JudgesEvent table operation target m allocation answer)

-- ---- the report: its answer, and the witness before and after

-- 20, then 40: "nothing changed"
pub record ReportRefused (table old new : List ℕ) (answer : Report) : Type 0 where
  pub number : ℕ
  pub why : ((well_formed table ≡ false) × (number ≡ 20)) ⊎ ((well_formed table ≡ true) × (length old < witness_words) × (number ≡ 40))
  pub told : answer ≡ Unreported number
  pub unchanged : new ≡ old

-- else it says of the policy that the table holds what `Says` says
pub record ReportMade (table old new : List ℕ) (answer : Report) : Type 0 where
  pub formed : well_formed table ≡ true
  pub room : witness_words ≤ length old
  pub says : Says (policy_in table) old new answer

-- one of the two
abbrev pub Reports : List ℕ → List ℕ → List ℕ → Report → Type 0
Reports table old new answer = ReportRefused table old new answer ⊎ ReportMade table old new answer

-- it "names the first such pair in file order and writes a moment of at most 30 functions that both match", the shortest, "and among the
-- shortest the lowest function numbers from the base up" (document 02 k)
pub record ClashNamed (p : Policy) (old new : List ℕ) (answer : Report) : Type 0 where
  pub lower : ℕ
  pub higher : ℕ
  pub depth : ℕ
  pub uid : ℕ
  pub gid : ℕ
  pub namespace : ℕ
  pub told : answer ≡ Clash lower higher depth uid gid namespace
  pub first : FirstClash p old new lower higher depth uid gid namespace

-- ---- name lookup: a stretch of the text. It changes nothing

-- "the very stretch of the lent text that holds the name": that of the domain with this number, a domain name that stands in the text
pub record NameTold (t : List ℕ) (which : Map) (d : ℕ) (answer : Stretch) : Type 0 where
  pub file : List Field
  pub read : file_of t ≡ fields file
  pub below : d < count_of which file
  pub told : answer ≡ stretch_of (get_or (fields_at (names_of which) file) d no_field)
  pub stands : NameStands t answer

-- "where the reader would refuse the text (2 to 11), or the number is not below that map's count, with an empty stretch at the front"
pub record NoName (t : List ℕ) (which : Map) (d : ℕ) (answer : Stretch) : Type 0 where
  pub none : NoSuchName which d (file_of t)
  pub told : answer ≡ front

-- one of the two
abbrev pub Names : List ℕ → Map → ℕ → Stretch → Type 0
Names t which d answer = NameTold t which d answer ⊎ NoName t which d answer
