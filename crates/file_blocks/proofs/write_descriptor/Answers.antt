-- The grant is written behind the context.
use Rattle.std.proofs.Common.{rules}
use Rattle.file_fields.proofs.Places.{is_object_context, object_context_fits, objects_fit}
use Rattle.file_blocks.proofs.Placed.{pattern_few}
use Rattle.file_blocks.proofs.Entries.{starts_within, room_in_descriptor, front_of_descriptor}
use Rattle.file_blocks.proofs.Entries.{objects_room, objects_zero, descriptor_written}
use Rattle.file_blocks.proofs.write_descriptor.Goals as goal

pub overflow_add-access : goal.overflow_add-access
overflow_add-access c = search (rules, object_context_fits)

pub slice_bounds-write_context-end : goal.slice_bounds-write_context-end
slice_bounds-write_context-end c = search (rules, room_in_descriptor)

pub write_context-requires-clause-to_in_bounds : goal.write_context-requires-clause-to_in_bounds
write_context-requires-clause-to_in_bounds c = starts_within _ _ _ c.args.item.listed c.requires.worded.room

pub write_context-requires-clause-context : goal.write_context-requires-clause-context
write_context-requires-clause-context c = is_object_context _ c.requires.access

pub write_context-requires-clause-few : goal.write_context-requires-clause-few
write_context-requires-clause-few c = pattern_few _ _ _ _ _ _ _ c.args.item.listed c.requires.worded _ (is_object_context _ c.requires.access) c.requires.few_elements

pub write_context-requires-clause-out_value : goal.write_context-requires-clause-out_value
write_context-requires-clause-out_value c = front_of_descriptor _ c.requires.out_value

pub overflow_add-access-2 : goal.overflow_add-access-2
overflow_add-access-2 c = search (rules, objects_fit)

pub slice_bounds-write_grant-end : goal.slice_bounds-write_grant-end
slice_bounds-write_grant-end c = let context = c.write_context.ensures in
    objects_room _ _ _ _ _ _ _ c.args.item.listed c.requires.worded _ c.requires.access c.requires.few_elements _ _ c.requires.out_value context

pub write_grant-requires : goal.write_grant-requires
write_grant-requires c = let context = c.write_context.ensures in
    record {
      to_in_bounds = starts_within _ _ _ c.args.item.listed c.requires.worded.room;
      out_value = objects_zero _ _ _ _ _ _ _ c.args.item.listed c.requires.worded _ c.requires.access c.requires.few_elements _ _ c.requires.out_value context;
    }

pub returns : goal.returns
returns c = let context = c.write_context.ensures in
    let granted = c.write_grant.ensures in
    descriptor_written _ _ _ _ _ _ _ c.args.item.listed c.requires.worded _ c.requires.access c.requires.few_elements _ _ c.requires.out_value context _
    c.requires.objects_value.0 c.requires.objects_value.1 c.requires.distinct _ granted
