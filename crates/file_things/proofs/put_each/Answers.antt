-- The walk: the elements before a place are written.
use Rattle.std.proofs.Common.{rules}
use Rattle.text_lists.proofs.Walk.{found_less, spaced_found}
use Rattle.file_things.proofs.Elements.{elements_begin, elements_spaced, elements_start, elements_bytes}
use Rattle.file_things.proofs.Elements.{elements_length, elements_done, found_ordered}
use Rattle.file_things.proofs.Elements.{element_asked, element_starts, element_stands, element_fits_lem, element_more}
use Rattle.file_things.proofs.put_each.Goals as goal

pub loop-element-init : goal.loop-element-init
loop-element-init c = (search (rules, elements_spaced), search (rules, elements_begin))

pub shape_of-out : goal.shape_of-out
shape_of-out c = search (rules, elements_length)

pub returns : goal.returns
returns c = search (rules, elements_done)

pub overflow_add-start : goal.overflow_add-start
overflow_add-start c = search (rules, element_starts)

pub overflow_add-start-in-Some : goal.overflow_add-start-in-Some
overflow_add-start-in-Some c = search (rules, element_stands)

pub overflow_sub-element : goal.overflow_sub-element
overflow_sub-element c = search (rules, found_ordered)

pub offset_bounds-out-end : goal.offset_bounds-out-end
offset_bounds-out-end c = search (rules, elements_bytes)

pub slice_bounds-put_thing-count : goal.slice_bounds-put_thing-count
slice_bounds-put_thing-count c = search (rules, elements_start)

pub slice_bounds-put_thing-start : goal.slice_bounds-put_thing-start
slice_bounds-put_thing-start c = search (rules, elements_start)

pub put_thing-end-requires : goal.put_thing-end-requires
put_thing-end-requires c = search (rules, element_asked)

pub overflow_add-end : goal.overflow_add-end
overflow_add-end c = search (rules, element_fits_lem)

pub loop-element-smaller : goal.loop-element-smaller
loop-element-smaller c = search (rules, found_less)

pub loop-element-preserved : goal.loop-element-preserved
loop-element-preserved c = (search (rules, spaced_found), search (rules, element_more))
