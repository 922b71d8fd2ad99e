-- The definition: brackets first, then what stands between them.
use Rattle.std.proofs.Common.{rules}
use Rattle.text_lists.proofs.Laws.{some_bracket, closed_behind_open, list_is, no_list}
use Rattle.text_lists.proofs.list_fault.Goals as goal

pub overflow_sub-last : goal.overflow_sub-last
overflow_sub-last c = search (rules, some_bracket)

pub slice_bounds-inside_fault-count : goal.slice_bounds-inside_fault-count
slice_bounds-inside_fault-count c = search (rules, closed_behind_open)

pub slice_bounds-inside_fault-start : goal.slice_bounds-inside_fault-start
slice_bounds-inside_fault-start c = search (rules, closed_behind_open)

pub returns-then-bracketed : goal.returns-then-bracketed
returns-then-bracketed c = search (rules, list_is)

pub returns : goal.returns
returns c = search (rules, no_list)
