-- The name stands among those that are left exactly if it stands among all of them.
use Rattle.std.proofs.Common.{rules}
use Rattle.text_repeats.proofs.Laws.{stands_none, stands_here, stands_later}
use Rattle.text_lists.proofs.Walk.{found_from, found_to_lem, found_less, spaced_found}
use Rattle.text_repeats.proofs.stands_from.Goals as goal

pub returns : goal.returns
returns c = search (rules, stands_none)

pub slice_bounds-same-count : goal.slice_bounds-same-count
slice_bounds-same-count c = search (rules, found_from)

pub slice_bounds-same-start : goal.slice_bounds-same-start
slice_bounds-same-start c = search (rules, found_from)

pub slice_bounds-same-end : goal.slice_bounds-same-end
slice_bounds-same-end c = search (rules, found_to_lem)

pub returns-then-same : goal.returns-then-same
returns-then-same c = search (rules, stands_here)

pub loop-element-smaller : goal.loop-element-smaller
loop-element-smaller c = search (rules, found_less)

pub loop-element-preserved : goal.loop-element-preserved
loop-element-preserved c = (search (rules, spaced_found), search (rules, stands_later))
