-- Between the brackets, where there are some.
use Rattle.std.proofs.Common.{rules}
use Rattle.text_lists.proofs.Laws.{some_bracket, closed_behind_open}
use Rattle.file_fields.proofs.Valued.{inside_list, inside_none}
use Rattle.file_fields.proofs.values.inside.Goals as goal

pub overflow_sub-result : goal.overflow_sub-result
overflow_sub-result c = search (rules, some_bracket)

pub slice_bounds-result-count : goal.slice_bounds-result-count
slice_bounds-result-count c = search (rules, closed_behind_open)

pub slice_bounds-result-start : goal.slice_bounds-result-start
slice_bounds-result-start c = search (rules, closed_behind_open)

pub returns-then-bracketed : goal.returns-then-bracketed
returns-then-bracketed c = search (rules, inside_list)

pub returns-else-bracketed : goal.returns-else-bracketed
returns-else-bracketed c = search (rules, inside_none)
