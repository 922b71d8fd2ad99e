-- The walk: the elements before a place went in behind the names that were there, and none of them was one of those.
use Rattle.std.proofs.Common.{rules}
use Rattle.text_lists.proofs.Walk.{found_less, spaced_found}
use Rattle.file_names.proofs.Entering.{no_members, walk_begins, begins_placed, begins_spaced, walk_ends, walk_room, walk_fits}
use Rattle.file_names.proofs.Entering.{start_fits, at_fits, end_fits, walk_twice, walk_on, stays_placed}
use Rattle.file_names.proofs.indexes.enter_members.Goals as goal

pub returns-then-place-clause-entered_as : goal.returns-then-place-clause-entered_as
returns-then-place-clause-entered_as c = search (rules, no_members)

pub loop-element-init : goal.loop-element-init
loop-element-init c = (search (rules, begins_spaced), search (rules, begins_placed), search rules, search (rules, walk_begins))

pub returns : goal.returns
returns c = search (rules, walk_ends)

pub overflow_add-start : goal.overflow_add-start
overflow_add-start c = search (rules, start_fits)

pub overflow_add-start-in-Some : goal.overflow_add-start-in-Some
overflow_add-start-in-Some c = search (rules, at_fits)

pub overflow_add-start-in-Some-2 : goal.overflow_add-start-in-Some-2
overflow_add-start-in-Some-2 c = search (rules, start_fits)

pub overflow_add-start-in-Some-3 : goal.overflow_add-start-in-Some-3
overflow_add-start-in-Some-3 c = search (rules, end_fits)

pub enter-requires : goal.enter-requires
enter-requires c = search (rules, walk_room)

pub returns-then-enter-clause-entered_as : goal.returns-then-enter-clause-entered_as
returns-then-enter-clause-entered_as c = search (rules, walk_twice)

pub overflow_add-names : goal.overflow_add-names
overflow_add-names c = search (rules, walk_fits)

pub loop-element-smaller : goal.loop-element-smaller
loop-element-smaller c = search (rules, found_less)

pub loop-element-preserved : goal.loop-element-preserved
loop-element-preserved c = (search (rules, spaced_found), search (rules, stays_placed), search rules, search (rules, walk_on))
