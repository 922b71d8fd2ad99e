-- The loop: d descriptors are written, and those of the entries that are left are to come.
use Rattle.std.proofs.Common.{rules}
use Rattle.file_fields.proofs.Left.{left_entries, left_more, left_none}
use Rattle.file_table.proofs.Accessed.{descriptors_begin, descriptors_start, descriptors_unwritten, descriptors_room}
use Rattle.file_table.proofs.Accessed.{descriptors_number_fits, descriptors_again, descriptors_length, descriptors_all}
use Rattle.file_table.proofs.Stepping.{its_file, file_stays, its_ready, its_objects, own_told}
use Rattle.file_table.proofs.write_descriptors.Goals as goal

pub loop-entry-init : goal.loop-entry-init
loop-entry-init c = search (rules, left_entries, descriptors_begin)

pub slice_bounds-write_accesses-count : goal.slice_bounds-write_accesses-count
slice_bounds-write_accesses-count c = search (rules, descriptors_start)

pub slice_bounds-write_accesses-start : goal.slice_bounds-write_accesses-start
slice_bounds-write_accesses-start c = search (rules, descriptors_start)

pub write_accesses-more-requires-clause-ready : goal.write_accesses-more-requires-clause-ready
write_accesses-more-requires-clause-ready c = (search (rules, its_file, its_ready), search (rules, its_file, its_objects))

pub write_accesses-more-requires-clause-out_value : goal.write_accesses-more-requires-clause-out_value
write_accesses-more-requires-clause-out_value c = search (rules, descriptors_unwritten)

pub write_accesses-more-requires-clause-room : goal.write_accesses-more-requires-clause-room
write_accesses-more-requires-clause-room c = let more = left_more _ _ _ c.in-Some.ensures.steps in search (rules, more, descriptors_room)

pub overflow_add-d : goal.overflow_add-d
overflow_add-d c = let next = c.in-Some.ensures.steps in
    let inv = c.loop-entry.invariant in
    let same = its_file c.args.file c.loop-entry.entry-iterator c.in-Some.entry c.next.new.self next inv.2 in
    descriptors_number_fits _ _ _ _ inv.3 c.requires.bounded _ _ (left_more _ _ _ next) _ _ (own_told c.args.file c.in-Some.entry same _ _ _ c.write_accesses-more.ensures)

pub loop-entry-preserved : goal.loop-entry-preserved
loop-entry-preserved c = let next = c.in-Some.ensures.steps in
    let inv = c.loop-entry.invariant in
    let same = its_file c.args.file c.loop-entry.entry-iterator c.in-Some.entry c.next.new.self next inv.2 in (
      search rules,
      search rules,
      file_stays c.args.file c.loop-entry.entry-iterator c.in-Some.entry c.next.new.self next inv.2,
      descriptors_again _ _ _ _ inv.3 c.requires.bounded _ _ (left_more _ _ _ next) _ _ (own_told c.args.file c.in-Some.entry same _ _ _ c.write_accesses-more.ensures),
    )

pub shape_of-out : goal.shape_of-out
shape_of-out c = search (rules, descriptors_length)

pub returns : goal.returns
returns c = descriptors_all _ _ _ _ c.loop-entry.invariant.3 _ c.requires.out_value (left_none c.loop-entry.entry-iterator c.in-None.ensures.steps)
