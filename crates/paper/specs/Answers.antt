-- The answers, case by case: what document 01 gives each ("Numbers that come back"), and the one number that a caller in C gets for it.
-- "Where an answer is an enum, a definition gives this paper's number and values for each of its cases. The promises use this definition."
use Rattle.std.specs.Prelude.{ℕ, ◌+◌, ◌*◌, ◌/◌, ◌%◌, ◌<◌, ◌≤◌, ◌≡◌, cond, length}
use Rattle.paper.specs.declared.Reading.{Reading}
use Rattle.paper.specs.declared.Reading.TheVariants.{Accepted, Unread}
use Rattle.paper.specs.declared.Filling.{Filling}
use Rattle.paper.specs.declared.Filling.TheVariants.{Written, Unfilled}
use Rattle.paper.specs.declared.Verdict.{Verdict}
use Rattle.paper.specs.declared.Verdict.TheVariants.{Inside, Granted, Violation, Unjudged}
use Rattle.paper.specs.declared.Report.{Report}
use Rattle.paper.specs.declared.Report.TheVariants.{Clear, Clash, Unreported}
use Rattle.paper.specs.Common.{is_empty}
use Rattle.paper.specs.Text.{no_line}
use Rattle.paper.specs.Lookup.{Stretch}

-- ---- the parts of an answer

-- which case it is, from 1; the number or the entry that the case names; whatever else it tells, as one number
pub record Parts : Type 0 where
  pub class : ℕ
  pub value : ℕ
  pub rest : ℕ

-- class 1 of every answer: "All but 3 to 11 return line 0; a refusal's other results are zero."
abbrev pub refused : ℕ → ℕ → Parts
refused number line = record { class = 1; value = number; rest = line }

-- the reader
abbrev pub reading_parts : Reading → Parts
reading_parts (Unread number line) = refused number line
reading_parts Accepted = record { class = 2; value = 0; rest = 0 }

-- the filler: how long the filled text is
abbrev pub filling_parts : Filling → Parts
filling_parts (Unfilled number line) = refused number line
filling_parts (Written size) = record { class = 2; value = 0; rest = size }

-- the judge: "violation 1" to "violation 4"; "allowed inside one domain"; "allowed, with the lowest matching entry that grants"
abbrev pub verdict_parts : Verdict → Parts
verdict_parts (Unjudged number) = refused number no_line
verdict_parts (Violation number) = record { class = 2; value = number; rest = 0 }
verdict_parts Inside = record { class = 3; value = 0; rest = 0 }
verdict_parts (Granted entry) = record { class = 4; value = entry; rest = 0 }

-- "the pair (lower entry least, then higher least), the stack's length, uid (1 if either entry says `user`, else 0)":
-- bits 0 to 7, 8 to 15, 16 to 23, and bit 24
unfoldable pub clash_rest : ℕ → ℕ → ℕ → ℕ → ℕ
clash_rest lower higher depth uid = lower + higher * 256 + depth * 65536 + uid * 16777216

-- the overlap report; "gid 0" and the namespace are not told, being always 0
abbrev pub report_parts : Report → Parts
report_parts (Unreported number) = refused number no_line
report_parts (Clash lower higher depth uid gid namespace) = record { class = 2; value = 0; rest = clash_rest lower higher depth uid }
report_parts Clear = record { class = 3; value = 0; rest = 0 }

-- name lookup: how long the name is and where it starts; class 1 for "an empty stretch at the front"
unfoldable pub name_parts : Stretch → Parts
name_parts s = record { class = cond (is_empty s.bytes) 1 2; value = length s.bytes; rest = s.start }

-- ---- an answer as one number, as include/dovetenon.h lays it out. No class is 0, so that 0 is no answer at all

-- bits 0 to 15 the value, bits 16 to 31 the class, bits 32 to 63 the rest
unfoldable pub packed : Parts → ℕ
packed a = a.value + a.class * 65536 + a.rest * 4294967296

-- the reader's answer
unfoldable pub reading_packed : Reading → ℕ
reading_packed r = packed (reading_parts r)

-- the filler's
unfoldable pub filling_packed : Filling → ℕ
filling_packed f = packed (filling_parts f)

-- the judge's, of 32 bits, since its rest is 0
unfoldable pub verdict_packed : Verdict → ℕ
verdict_packed v = packed (verdict_parts v)

-- the overlap report's
unfoldable pub report_packed : Report → ℕ
report_packed r = packed (report_parts r)

-- name lookup's
unfoldable pub name_packed : Stretch → ℕ
name_packed s = packed (name_parts s)

-- its parts again, as the functions of include/dovetenon.h take them
unfoldable pub unpacked : ℕ → Parts
unpacked n = record { class = n / 65536 % 65536; value = n % 65536; rest = n / 4294967296 }

-- ---- what has room there

-- the class and the value have room for 16 bits, the rest for 32
abbrev pub PartsFit : Parts → Type 0
PartsFit a = (a.class < 65536) × (a.value < 65536) × (a.rest < 4294967296)

-- the pair and the stack's length have room for 8 bits, the uid for one
abbrev pub ClashFits : ℕ → ℕ → ℕ → ℕ → ℕ → ℕ → Type 0
ClashFits lower higher depth uid gid namespace = (lower < 256) × (higher < 256) × (depth < 256) × (uid ≤ 1) × (gid ≡ 0) × (namespace ≡ 0)

-- each number of a report has room
abbrev pub ReportFits : Report → Type 0
ReportFits (Unreported number) = number < 65536
ReportFits (Clash lower higher depth uid gid namespace) = ClashFits lower higher depth uid gid namespace
ReportFits Clear = Unit {0}
