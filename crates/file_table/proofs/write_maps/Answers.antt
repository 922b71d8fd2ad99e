-- The objects, then the functions behind them: the fields of the maps have them all.
use Rattle.std.proofs.Common.{rules}
use Rattle.file_table.proofs.Whole.{few_in_maps, few_objects_lem, few_functions_lem, objects_counted, objects_unwritten, functions_unwritten, maps_written}
use Rattle.file_table.proofs.write_maps.Goals as goal

pub write_members-objects-requires-clause-few_fields : goal.write_members-objects-requires-clause-few_fields
write_members-objects-requires-clause-few_fields c = search (rules, few_in_maps)

pub write_members-objects-requires-clause-few_members : goal.write_members-objects-requires-clause-few_members
write_members-objects-requires-clause-few_members c = search (rules, few_objects_lem)

pub write_members-objects-requires-clause-out_value : goal.write_members-objects-requires-clause-out_value
write_members-objects-requires-clause-out_value c = search (rules, objects_unwritten)

pub write_members-requires-clause-few_fields : goal.write_members-requires-clause-few_fields
write_members-requires-clause-few_fields c = search (rules, few_in_maps)

pub write_members-requires-clause-few_members : goal.write_members-requires-clause-few_members
write_members-requires-clause-few_members c = search (rules, few_functions_lem)

pub write_members-requires-clause-out_value : goal.write_members-requires-clause-out_value
write_members-requires-clause-out_value c = search (rules, functions_unwritten)

pub returns-clause-value : goal.returns-clause-value
returns-clause-value c = search (rules, objects_counted)

pub returns-clause-out_after : goal.returns-clause-out_after
returns-clause-out_after c = search (rules, maps_written)
