-- By whether the place is past the end.
use Rattle.std.proofs.Common.{rules}
use Rattle.text_lists.proofs.Walk.{none_found, next_fits, element_found}
use Rattle.text_lists.proofs.element_at.Goals as goal

pub returns-then-s-at : goal.returns-then-s-at
returns-then-s-at c = search (rules, none_found)

pub overflow_add-result : goal.overflow_add-result
overflow_add-result c = search (rules, next_fits)

pub returns : goal.returns
returns c = search (rules, element_found)
