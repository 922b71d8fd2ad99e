-- One `|`, then the end: each other byte makes it no identifier.
use Rattle.std.proofs.Common.{rules}
use Rattle.text_lists.proofs.Scalars.{subject_no_bar, subject_no_end, subject_read, behind_bar_to, behind_bar_fits, begins_within, two_parts_from}
use Rattle.text_lists.proofs.read_subject.Goals as goal

pub returns-then-not-bar_stands : goal.returns-then-not-bar_stands
returns-then-not-bar_stands c = search (rules, subject_no_bar)

pub overflow_add-name : goal.overflow_add-name
overflow_add-name c = search (rules, behind_bar_fits)

pub part_end-end-requires : goal.part_end-end-requires
part_end-end-requires c = search (rules, behind_bar_to)

pub returns-then-not-element_ends : goal.returns-then-not-element_ends
returns-then-not-element_ends c = search (rules, subject_no_end)

pub identifier_begins-requires-clause-at_in_bounds : goal.identifier_begins-requires-clause-at_in_bounds
identifier_begins-requires-clause-at_in_bounds c = search (rules, begins_within)

pub identifier_begins-requires-clause-at_le_end : goal.identifier_begins-requires-clause-at_le_end
identifier_begins-requires-clause-at_le_end c = search (rules, two_parts_from)

pub returns : goal.returns
returns c = search (rules, subject_read)
