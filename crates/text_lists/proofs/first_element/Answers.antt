-- By whether there is anything.
use Rattle.std.proofs.Common.{rules}
use Rattle.text_lists.proofs.Walk.{first_none, first_some}
use Rattle.text_lists.proofs.first_element.Goals as goal

pub returns-then-s-eq0 : goal.returns-then-s-eq0
returns-then-s-eq0 c = search (rules, first_none)

pub returns : goal.returns
returns c = search (rules, first_some)
