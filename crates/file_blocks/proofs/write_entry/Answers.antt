-- Each part is written behind those before it.
use Rattle.std.proofs.Common.{rules}
use Rattle.file_fields.proofs.Places.{is_execution_context}
use Rattle.file_blocks.proofs.Placed.{pattern_few}
use Rattle.file_blocks.proofs.Entries.{starts_within, room_in_entry, front_of_entry, entry_stays_long}
use Rattle.file_blocks.proofs.Entries.{calls_room, calls_zero, returns_room, returns_zero, entry_written}
use Rattle.file_blocks.proofs.write_entry.Goals as goal

pub slice_bounds-write_context-end : goal.slice_bounds-write_context-end
slice_bounds-write_context-end c = search (rules, room_in_entry)

pub write_context-requires-clause-to_in_bounds : goal.write_context-requires-clause-to_in_bounds
write_context-requires-clause-to_in_bounds c = starts_within _ _ _ c.args.entry.listed c.requires.worded.room

pub write_context-requires-clause-context : goal.write_context-requires-clause-context
write_context-requires-clause-context c = is_execution_context

pub write_context-requires-clause-few : goal.write_context-requires-clause-few
write_context-requires-clause-few c = pattern_few _ _ _ _ _ _ _ c.args.entry.listed c.requires.worded _ is_execution_context c.requires.few_elements

pub write_context-requires-clause-out_value : goal.write_context-requires-clause-out_value
write_context-requires-clause-out_value c = front_of_entry _ c.requires.out_value

pub write_counts-requires : goal.write_counts-requires
write_counts-requires c = search (rules, entry_stays_long)

pub slice_bounds-write_grant-end : goal.slice_bounds-write_grant-end
slice_bounds-write_grant-end c = let context = c.write_context.ensures in
    let counts = c.write_counts.ensures in
    calls_room _ _ _ _ _ _ _ c.args.entry.listed c.requires.worded c.requires.few_elements _ _ c.requires.out_value context _ _ _ counts

pub write_grant-requires : goal.write_grant-requires
write_grant-requires c = let context = c.write_context.ensures in
    let counts = c.write_counts.ensures in
    record {
      to_in_bounds = starts_within _ _ _ c.args.entry.listed c.requires.worded.room;
      out_value = calls_zero _ _ _ _ _ _ _ c.args.entry.listed c.requires.worded c.requires.few_elements _ _ c.requires.out_value context _ _ _ counts;
    }

pub slice_bounds-write_grant-end-2 : goal.slice_bounds-write_grant-end-2
slice_bounds-write_grant-end-2 c = let context = c.write_context.ensures in
    let counts = c.write_counts.ensures in
    let calls = c.write_grant.ensures in
    returns_room _ _ _ _ _ _ _ c.args.entry.listed c.requires.worded c.requires.few_elements _ _ c.requires.out_value context _ _ _ counts c.requires.mapped c.requires.distinct _ calls

pub write_grant-requires-2 : goal.write_grant-requires-2
write_grant-requires-2 c = let context = c.write_context.ensures in
    let counts = c.write_counts.ensures in
    let calls = c.write_grant.ensures in record {
      to_in_bounds = starts_within _ _ _ c.args.entry.listed c.requires.worded.room;
      out_value = returns_zero _ _ _ _ _ _ _ c.args.entry.listed c.requires.worded c.requires.few_elements _ _ c.requires.out_value context _ _ _ counts c.requires.mapped
          c.requires.distinct _ calls;
    }

pub returns : goal.returns
returns c = let context = c.write_context.ensures in
    let counts = c.write_counts.ensures in
    let calls = c.write_grant.ensures in
    let returns = c.write_grant-2.ensures in
    entry_written _ _ _ _ _ _ _ c.args.entry.listed c.requires.worded c.requires.few_elements _ _ c.requires.out_value context _ _ _ counts c.requires.mapped
    c.requires.distinct _ calls _ returns
