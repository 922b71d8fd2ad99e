-- The tests are the definition's.
use Rattle.std.proofs.Common.{rules}
use Rattle.text_page.proofs.Steps.{value_short, value_is}
use Rattle.text_page.proofs.step.one_space_and_value.Goals as goal

pub returns-then-rest-ge2 : goal.returns-then-rest-ge2
returns-then-rest-ge2 c = search (rules, value_is)

pub returns-else-rest-ge2 : goal.returns-else-rest-ge2
returns-else-rest-ge2 c = search (rules, value_short)
