-- Three `|`, then the end: each other byte makes it no identifier.
use Rattle.std.proofs.Common.{rules}
use Rattle.text_lists.proofs.Scalars.{behind_bar_to, behind_bar_fits, bar_to, last_to, begins_within, four_parts_from}
use Rattle.text_lists.proofs.Scalars.{object_no_sort, object_no_path, object_no_line, object_no_end, object_read}
use Rattle.text_lists.proofs.read_object.Goals as goal

pub returns-then-not-bar_stands : goal.returns-then-not-bar_stands
returns-then-not-bar_stands c = search (rules, object_no_sort)

pub overflow_add-path : goal.overflow_add-path
overflow_add-path c = search (rules, behind_bar_fits)

pub part_end-path_end-requires : goal.part_end-path_end-requires
part_end-path_end-requires c = search (rules, behind_bar_to)

pub returns-then-not-bar_stands-2 : goal.returns-then-not-bar_stands-2
returns-then-not-bar_stands-2 c = search (rules, object_no_path)

pub overflow_add-line : goal.overflow_add-line
overflow_add-line c = search (rules, behind_bar_fits)

pub part_end-line_end-requires : goal.part_end-line_end-requires
part_end-line_end-requires c = search (rules, behind_bar_to)

pub returns-then-not-bar_stands-3 : goal.returns-then-not-bar_stands-3
returns-then-not-bar_stands-3 c = search (rules, object_no_line)

pub overflow_add-name : goal.overflow_add-name
overflow_add-name c = search (rules, behind_bar_fits)

pub part_end-end-requires : goal.part_end-end-requires
part_end-end-requires c = behind_bar_to _ _ _ c.bar_stands-3.ensures c.if-not-bar_stands-3.false-raw

pub returns-then-not-element_ends : goal.returns-then-not-element_ends
returns-then-not-element_ends c = search (rules, object_no_end)

pub slice_bounds-object_fits-end : goal.slice_bounds-object_fits-end
slice_bounds-object_fits-end c = search (rules, bar_to)

pub slice_bounds-object_fits-end-2 : goal.slice_bounds-object_fits-end-2
slice_bounds-object_fits-end-2 c = bar_to _ _ _ c.bar_stands-2.ensures c.if-not-bar_stands-2.false-raw

pub slice_bounds-object_fits-end-3 : goal.slice_bounds-object_fits-end-3
slice_bounds-object_fits-end-3 c = bar_to _ _ _ c.bar_stands-3.ensures c.if-not-bar_stands-3.false-raw

pub slice_bounds-object_fits-end-4 : goal.slice_bounds-object_fits-end-4
slice_bounds-object_fits-end-4 c = last_to _ _ _ c.bar_stands-3.ensures c.if-not-bar_stands-3.false-raw _ c.part_end-end.ensures

pub identifier_begins-requires-clause-at_in_bounds : goal.identifier_begins-requires-clause-at_in_bounds
identifier_begins-requires-clause-at_in_bounds c = begins_within _ _ _ c.bar_stands.ensures c.if-not-bar_stands.false-raw _ c.part_end-sort_end.ensures

pub identifier_begins-requires-clause-at_le_end : goal.identifier_begins-requires-clause-at_le_end
identifier_begins-requires-clause-at_le_end c = four_parts_from _ _ _ _ c.part_end-sort_end.ensures c.part_end-path_end.ensures _ _ c.part_end-line_end.ensures c.part_end-end.ensures

pub returns : goal.returns
returns c = search (rules, object_read)
