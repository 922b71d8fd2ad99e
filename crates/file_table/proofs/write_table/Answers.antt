-- The maps, the privileges behind them, and the head before them.
use Rattle.std.proofs.Common.{rules}
use Rattle.file_table.proofs.Whole.{objects_few, functions_few, file_bounded, file_ready, maps_long, maps_unwritten}
use Rattle.file_table.proofs.Whole.{privileges_long, privileges_unwritten, members_few, entries_few, head_unwritten, table_written}
use Rattle.file_table.proofs.write_table.Goals as goal

pub write_maps-members-requires-clause-few_objects : goal.write_maps-members-requires-clause-few_objects
write_maps-members-requires-clause-few_objects c = search (rules, objects_few)

pub write_maps-members-requires-clause-few_functions : goal.write_maps-members-requires-clause-few_functions
write_maps-members-requires-clause-few_functions c = search (rules, functions_few)

pub write_maps-members-requires-clause-out_len : goal.write_maps-members-requires-clause-out_len
write_maps-members-requires-clause-out_len c = (search (rules, maps_long), search (rules, maps_unwritten))

pub write_privileges-entries-requires-clause-ready : goal.write_privileges-entries-requires-clause-ready
write_privileges-entries-requires-clause-ready c = (search (rules, file_ready), search rules, search rules)

pub write_privileges-entries-requires-clause-bounded : goal.write_privileges-entries-requires-clause-bounded
write_privileges-entries-requires-clause-bounded c = search (rules, file_bounded)

pub write_privileges-entries-requires-clause-out_len : goal.write_privileges-entries-requires-clause-out_len
write_privileges-entries-requires-clause-out_len c = (
  search (rules, privileges_long),
  privileges_unwritten _ c.requires.in_limits.0 c.requires.in_limits.1
      c.args.table.now
      c.requires.zeros.0
      c.requires.zeros.1 _
      c.write_maps-members.ensures.out_after,
)

pub write_head-requires-clause-few_domains : goal.write_head-requires-clause-few_domains
write_head-requires-clause-few_domains c = (search rules, search rules)

pub write_head-requires-clause-few_others : goal.write_head-requires-clause-few_others
write_head-requires-clause-few_others c = (
  members_few _ _ c.write_maps-members.ensures.value
      c.requires.in_limits.0 c.requires.in_limits.1,
  search rules,
  entries_few _ _ c.write_privileges-entries.ensures.value
      c.requires.in_limits.0 c.requires.in_limits.1,
)

pub write_head-requires-clause-out_value : goal.write_head-requires-clause-out_value
write_head-requires-clause-out_value c = search (rules, head_unwritten)

pub returns : goal.returns
returns c = table_written _ c.requires.in_limits.0 c.requires.in_limits.1
    c.args.table.now c.requires.zeros.0 c.requires.zeros.1 _
    c.write_maps-members.ensures.out_after _
    c.write_privileges-entries.ensures.out_after.0
    c.write_privileges-entries.ensures.out_after.1 _ _ _ _ _
    c.requires.of_maps.0 c.requires.of_maps.1 c.requires.of_maps.2 _ _ c.write_maps-members.ensures.value
    c.write_privileges-entries.ensures.value _ c.write_head.ensures
