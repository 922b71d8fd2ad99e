-- The five promises: for each public function its whole answer, and what every word or byte lent to it holds afterwards, for every input
-- (document 01, "Numbers that come back" and "Holding a promise to its word").
use Rattle.std.specs.Prelude.{ℕ, zero, suc, ◌≡◌, List, [], ◌++◌, cond, not, eqb, ltb, length, drop, replicate}
use Rattle.paper.specs.declared.Access.{Access}
use Rattle.paper.specs.declared.Access.TheVariants.{Read, Write, Call, Return}
use Rattle.paper.specs.declared.Reading.{Reading}
use Rattle.paper.specs.declared.Reading.TheVariants.{Accepted, Unread}
use Rattle.paper.specs.declared.Filling.{Filling}
use Rattle.paper.specs.declared.Filling.TheVariants.{Written, Unfilled}
use Rattle.paper.specs.declared.Verdict.{Verdict}
use Rattle.paper.specs.declared.Verdict.TheVariants.{Unjudged}
use Rattle.paper.specs.declared.Report.{Report}
use Rattle.paper.specs.declared.Report.TheVariants.{Unreported}
use Rattle.paper.specs.declared.Map.{Map}
use Rattle.paper.specs.declared.Map.TheVariants.{Objects, Subjects}
use Rattle.paper.specs.Common.{within}
use Rattle.paper.specs.Limits.{text_bytes, table_words, most_frames, witness_words}
use Rattle.paper.specs.Text.{no_line, bad_byte_line}
use Rattle.paper.specs.Page.{Outcome, fields, fault, page_of}
use Rattle.paper.specs.Rules.{ruled, unless_line}
use Rattle.paper.specs.Policy.{Policy, policy_of}
use Rattle.paper.specs.Table.{words_of, policy_in, well_formed}
use Rattle.paper.specs.Match.{Moment}
use Rattle.paper.specs.Verdict.{verdict_of}
use Rattle.paper.specs.Overlap.{Says}
use Rattle.paper.specs.Filled.{filled_text}
use Rattle.paper.specs.Lookup.{Stretch, front, name_in}

-- ---- a text: its fields, or its refusal, 2 to 11

-- "Reader order: 1, 2, 3, then the first line with 4, 9 or 5 (in that order on one line)"
unfoldable pub text_page : List ℕ → Outcome
text_page t = cond (ltb text_bytes (length t)) (fault 2 no_line) (unless_line 3 (bad_byte_line 1 t) (page_of t))

-- fields are held to the rules
abbrev pub held_to_rules : Outcome → Outcome
held_to_rules (fields fs) = ruled fs
held_to_rules (fault number line) = fault number line

-- "then 6, 7, 8, 10, 11"
unfoldable pub file_of : List ℕ → Outcome
file_of t = held_to_rules (text_page t)

-- ---- the reader: a text, and a table

-- the reader accepts fields, and refuses with number and line
abbrev pub reading_of : Outcome → Reading
reading_of (fields fs) = Accepted
reading_of (fault number line) = Unread number line

-- 1: "table under 16,384 words"
unfoldable pub read_answer : List ℕ → List ℕ → Reading
read_answer t table = cond (ltb (length table) table_words) (Unread 1 no_line) (reading_of (file_of t))

-- "first 16,384 words zero (2 to 11)", or the words of the policy
abbrev pub words_read : Outcome → List ℕ
words_read (fields fs) = words_of (policy_of fs)
words_read (fault number line) = replicate table_words 0

-- 1: "nothing changed"; "Words past 16,384 .. never change"
unfoldable pub read_leaves : List ℕ → List ℕ → List ℕ
read_leaves t table = cond (ltb (length table) table_words) table (words_read (file_of t) ++ drop table_words table)

-- ---- the filler: a text, and the output

-- 31: "filled text over 65,536 bytes"; 30: "output shorter than the filled text"
unfoldable pub written_in : ℕ → ℕ → Filling
written_in room size = cond (ltb text_bytes size) (Unfilled 31 no_line) (cond (ltb room size) (Unfilled 30 no_line) (Written size))

-- "The filler gives 2 to 11 as the reader does, then 31, then 30"
abbrev pub filling_of : ℕ → Outcome → Filling
filling_of room (fields fs) = written_in room (length (filled_text fs))
filling_of room (fault number line) = Unfilled number line

-- the filler's whole answer
unfoldable pub fill_answer : List ℕ → List ℕ → Filling
fill_answer t out = filling_of (length out) (file_of t)

-- the filled text of an accepted file
abbrev pub text_filled : Outcome → List ℕ
text_filled (fields fs) = filled_text fs
text_filled (fault number line) = []

-- "bytes past the filled text, never change"; "on refusal its output is untouched"
abbrev pub output_left : List ℕ → List ℕ → Filling → List ℕ
output_left filled out (Written size) = filled ++ drop size out
output_left filled out (Unfilled number line) = out

-- what the filler leaves in its output
unfoldable pub fill_leaves : List ℕ → List ℕ → List ℕ
fill_leaves t out = output_left (text_filled (file_of t)) out (fill_answer t out)

-- ---- the judge: a table, and an event. It changes nothing

-- "one of the operations read 1, write 2, call 3, return 4, with a target"
unfoldable pub access_for : ℕ → ℕ → Access
access_for operation target =
    cond (eqb operation 1) (Read (record { 0 = target }))
    (cond (eqb operation 2) (Write (record { 0 = target }))
    (cond (eqb operation 3) (Call (record { 0 = target })) (Return (record { 0 = target }))))

-- 21: "stack of 0 or over 64 frames"; 22: "allocation stack over 64 frames"; 23: "operation not 1 to 4"
unfoldable pub judge_event : Policy → ℕ → ℕ → Moment → Moment → Verdict
judge_event p operation target m allocation =
    cond (not (within 1 most_frames (length m.stack))) (Unjudged 21)
    (cond (ltb most_frames (length allocation.stack)) (Unjudged 22)
    (cond (not (within 1 4 operation)) (Unjudged 23)
    (verdict_of p (access_for operation target) m allocation)))

-- 20: "table not well formed"
unfoldable pub judge_answer : List ℕ → ℕ → ℕ → Moment → Moment → Verdict
judge_answer table operation target m allocation =
    cond (well_formed table) (judge_event (policy_in table) operation target m allocation) (Unjudged 20)

-- ---- the overlap report: a table, and the witness before and after

-- "the report's [order is] 20, 40"; 40: "under 30 words" (document 02 h)
unfoldable pub report_refusal : List ℕ → List ℕ → ℕ
report_refusal table witness = cond (well_formed table) (cond (ltb (length witness) witness_words) 40 0) 20

-- what the report says, unless it is refused: "nothing changed (20 to 40)"
abbrev pub ReportedUnless : ℕ → Policy → List ℕ → List ℕ → Report → Type 0
ReportedUnless zero p old new r = Says p old new r
ReportedUnless (suc number) p old new r = (r ≡ Unreported (suc number)) × (new ≡ old)

-- the report's whole answer and what it leaves in the witness
unfoldable pub Reported : List ℕ → List ℕ → List ℕ → Report → Type 0
Reported table old new r = ReportedUnless (report_refusal table old) (policy_in table) old new r

-- ---- name lookup: a text, a map, a domain number. It changes nothing

-- the stretch that name lookup answers with
unfoldable pub lookup_answer : List ℕ → Map → ℕ → Stretch
lookup_answer t which d = name_in which d (file_of t)

-- the same by the map's number, as a caller in C has it: 1 the object map, 2 the subject map. Another number is no map's, so no domain is below its count
unfoldable pub lookup_numbered : List ℕ → ℕ → ℕ → Stretch
lookup_numbered t which d = cond (eqb which 1) (lookup_answer t Objects d) (cond (eqb which 2) (lookup_answer t Subjects d) front)
