-- The definition, case by case.
use Rattle.std.proofs.Common.{rules}
use Rattle.file_fields.proofs.Valued.{earlier_second, earlier_first, earlier_less, earlier_not}
use Rattle.file_fields.proofs.earlier.Goals as goal

pub returns-then-a-eq-NO_LINE : goal.returns-then-a-eq-NO_LINE
returns-then-a-eq-NO_LINE c = search (rules, earlier_second)

pub returns-then-b-eq-NO_LINE : goal.returns-then-b-eq-NO_LINE
returns-then-b-eq-NO_LINE c = search (rules, earlier_first)

pub returns-then-a-b : goal.returns-then-a-b
returns-then-a-b c = search (rules, earlier_less)

pub returns : goal.returns
returns c = search (rules, earlier_not)
