-- One more than there are commas between the brackets.
use Rattle.std.proofs.Common.{rules}
use Rattle.file_fields.proofs.Valued.{no_elements, some_elements, few_elements, elements_fit}
use Rattle.file_fields.proofs.values.element_count.Goals as goal

pub returns-then-s-eq0 : goal.returns-then-s-eq0
returns-then-s-eq0 c = search (rules, no_elements)

pub overflow_add-result : goal.overflow_add-result
overflow_add-result c = search (rules, elements_fit)

pub returns : goal.returns
returns c = search (rules, some_elements, few_elements)
