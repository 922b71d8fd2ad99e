-- `all`, or else what the tests of an identifier and of a name say.
use Rattle.std.proofs.Common.{rules}
use Rattle.text_scalars.proofs.Laws.{element_all, element_identifier, element_name}
use Rattle.text_scalars.proofs.is_pattern_element.Goals as goal

pub returns-then-same : goal.returns-then-same
returns-then-same c = search (rules, element_all)

pub returns-then-is_identifier : goal.returns-then-is_identifier
returns-then-is_identifier c = search (rules, element_identifier)

pub returns-else-is_identifier : goal.returns-else-is_identifier
returns-else-is_identifier c = search (rules, element_name)
