-- The definition, whose first test is made apart: two bytes are read only where there are two.
use Rattle.std.proofs.Common.{rules}
use Rattle.text_lists.proofs.Laws.{not_bracketed, bracketed_is}
use Rattle.text_lists.proofs.bracketed.Goals as goal

pub returns-in_default : goal.returns-in_default
returns-in_default c = search (rules, not_bracketed)

pub returns-in-len2-up : goal.returns-in-len2-up
returns-in-len2-up c = search (rules, bracketed_is)
