-- The value stands in the text from the field's start on.
use Rattle.std.proofs.Common.{rules}
use Rattle.file_lookup.proofs.Placed.{value_fits, value_stretch, value_ends}
use Rattle.file_lookup.proofs.value_place.Goals as goal

pub overflow_add-result : goal.overflow_add-result
overflow_add-result c = search (rules, value_fits)

pub returns : goal.returns
returns c = search (rules, value_stretch, value_ends)
