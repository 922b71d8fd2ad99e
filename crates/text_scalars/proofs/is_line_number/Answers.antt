-- The definition, whose first test is made apart: the first byte is read only where there is one.
use Rattle.std.proofs.Common.{rules}
use Rattle.text_scalars.proofs.Laws.{no_line_number, line_number_is}
use Rattle.text_scalars.proofs.is_line_number.Goals as goal

pub returns-in-empty : goal.returns-in-empty
returns-in-empty c = search (rules, no_line_number)

pub returns-in-len1-up : goal.returns-in-len1-up
returns-in-len1-up c = search (rules, line_number_is)
