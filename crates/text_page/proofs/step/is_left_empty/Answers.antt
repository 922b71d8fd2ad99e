-- Both tests, as the definition has them.
use Rattle.std.proofs.Common.{rules}
use Rattle.text_page.proofs.Steps.{left_not, left_bare}
use Rattle.text_page.proofs.step.is_left_empty.Goals as goal

pub returns-then-st-here : goal.returns-then-st-here
returns-then-st-here c = search (rules, left_bare)

pub returns-else-st-here : goal.returns-else-st-here
returns-else-st-here c = search (rules, left_not)
