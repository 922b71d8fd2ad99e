-- One where the value is `all`, else one for each item.
use Rattle.std.proofs.Common.{rules}
use Rattle.file_fields.proofs.Accesses.{one_descriptor, items_counted, few_items}
use Rattle.file_fields.proofs.Places.{objects_fit}
use Rattle.file_fields.proofs.stretch.Stretch.descriptors_of.Goals as goal

pub returns-then-is_all-clause-value : goal.returns-then-is_all-clause-value
returns-then-is_all-clause-value c = search (rules, one_descriptor)

pub overflow_add-access : goal.overflow_add-access
overflow_add-access c = search (rules, objects_fit)

pub returns-clause-value : goal.returns-clause-value
returns-clause-value c = search (rules, items_counted)

pub returns-clause-upper_bound : goal.returns-clause-upper_bound
returns-clause-upper_bound c = search (rules, few_items)
