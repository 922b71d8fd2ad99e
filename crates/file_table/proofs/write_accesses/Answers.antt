-- The reads, then the writes behind them.
use Rattle.std.proofs.Common.{rules}
use Rattle.file_table.proofs.Fitting.{reading, writing}
use Rattle.file_table.proofs.Accessed.{reads_room, reads_fit, reads_scaled, writes_start, writes_unwritten, writes_room, both_fit, both_filled}
use Rattle.file_table.proofs.write_accesses.Goals as goal

pub write_access-reads-requires-clause-access : goal.write_access-reads-requires-clause-access
write_access-reads-requires-clause-access c = reading

pub write_access-reads-requires-clause-room : goal.write_access-reads-requires-clause-room
write_access-reads-requires-clause-room c = search (rules, reads_room)

pub overflow_mul-at : goal.overflow_mul-at
overflow_mul-at c = search (rules, reads_fit)

pub offset_bounds-out-at : goal.offset_bounds-out-at
offset_bounds-out-at c = search (rules, reads_scaled)

pub slice_bounds-write_access-count : goal.slice_bounds-write_access-count
slice_bounds-write_access-count c = search (rules, writes_start)

pub slice_bounds-write_access-start : goal.slice_bounds-write_access-start
slice_bounds-write_access-start c = search (rules, writes_start)

pub write_access-writes-requires-clause-access : goal.write_access-writes-requires-clause-access
write_access-writes-requires-clause-access c = writing

pub write_access-writes-requires-clause-out_value : goal.write_access-writes-requires-clause-out_value
write_access-writes-requires-clause-out_value c = search (rules, writes_unwritten)

pub write_access-writes-requires-clause-room : goal.write_access-writes-requires-clause-room
write_access-writes-requires-clause-room c = writes_room _ _ _ _ _ _
    c.requires.room _ _
    c.write_access-reads.ensures

pub overflow_add-result : goal.overflow_add-result
overflow_add-result c = let h = both_fit _ c.args.out.now _
    _ c.requires.room
    c.write_access-reads.ensures.counted c.write_access-writes.ensures.counted
    (search (rules, c.well_formed)) in
    search (rules, h)

pub returns : goal.returns
returns c = search (rules, both_filled)
