-- `all` is one descriptor with nothing written in it; else the items are.
use Rattle.std.proofs.Common.{rules}
use Rattle.file_table.proofs.Accessed.{none_short, all_room, all_part, all_unwritten, all_filled, items_room, items_filled}
use Rattle.file_table.proofs.write_access.Goals as goal

pub slice_bounds-write_descriptor-end : goal.slice_bounds-write_descriptor-end
slice_bounds-write_descriptor-end c = search (rules, all_room)

pub slice_bounds-write_descriptor-end-then-is_all : goal.slice_bounds-write_descriptor-end-then-is_all
slice_bounds-write_descriptor-end-then-is_all c = search (rules, all_part)

pub write_descriptor-requires-clause-objects_value : goal.write_descriptor-requires-clause-objects_value
write_descriptor-requires-clause-objects_value c = (search rules, search rules)

pub write_descriptor-requires-clause-few_elements : goal.write_descriptor-requires-clause-few_elements
write_descriptor-requires-clause-few_elements c = search (rules, none_short)

pub write_descriptor-requires-clause-out_value : goal.write_descriptor-requires-clause-out_value
write_descriptor-requires-clause-out_value c = search (rules, all_unwritten)

pub returns-then-is_all : goal.returns-then-is_all
returns-then-is_all c = search (rules, all_filled)

pub write_items-requires-clause-room : goal.write_items-requires-clause-room
write_items-requires-clause-room c = items_room _
    c.requires.access _ _ _ _ _
    c.value_at-v.ensures _ c.is_all.ensures
    c.args.out.now
    c.requires.room c.if-is_all.false

pub returns : goal.returns
returns c = search (rules, items_filled)
