-- The loop: d descriptors are written, and the items that are left are to come.
use Rattle.std.proofs.Common.{rules}
use Rattle.file_fields.proofs.Left.{left_more, left_none}
use Rattle.file_fields.proofs.Places.{objects_fit}
use Rattle.file_table.proofs.Described.{items_begin, items_at_fits, items_end_fits, item_end, item_unwritten, items_number_fits, items_again, items_all}
use Rattle.file_table.proofs.Stepping.{left_items, its_file, file_stays, its_words, objects_counted, objects_apart, item_short, item_sized, item_told}
use Rattle.file_table.proofs.write_items.Goals as goal

pub overflow_add-access : goal.overflow_add-access
overflow_add-access c = search (rules, objects_fit)

pub loop-item-init : goal.loop-item-init
loop-item-init c = search (rules, left_items, items_begin)

pub overflow_mul-at : goal.overflow_mul-at
overflow_mul-at c = search (rules, items_at_fits)

pub overflow_add-end : goal.overflow_add-end
overflow_add-end c = search (rules, items_end_fits)

pub slice_bounds-write_descriptor-end : goal.slice_bounds-write_descriptor-end
slice_bounds-write_descriptor-end c = let more = left_more _ _ _ c.in-Some.ensures.steps in search (rules, more, item_end)

pub write_descriptor-requires-clause-worded : goal.write_descriptor-requires-clause-worded
write_descriptor-requires-clause-worded c = search (rules, its_file, its_words)

pub write_descriptor-requires-clause-objects_value : goal.write_descriptor-requires-clause-objects_value
write_descriptor-requires-clause-objects_value c = (search (rules, its_file, objects_counted), search rules)

pub write_descriptor-requires-clause-distinct : goal.write_descriptor-requires-clause-distinct
write_descriptor-requires-clause-distinct c = search (rules, its_file, objects_apart)

pub write_descriptor-requires-clause-few_elements : goal.write_descriptor-requires-clause-few_elements
write_descriptor-requires-clause-few_elements c = search (rules, its_file, item_short)

pub write_descriptor-requires-clause-out_value : goal.write_descriptor-requires-clause-out_value
write_descriptor-requires-clause-out_value c = let more = left_more _ _ _ c.in-Some.ensures.steps in search (rules, more, item_unwritten)

pub overflow_add-d : goal.overflow_add-d
overflow_add-d c = search (rules, items_number_fits)

pub loop-item-preserved : goal.loop-item-preserved
loop-item-preserved c = let more = left_more _ _ _ c.in-Some.ensures.steps in search (rules, more, its_file, file_stays, item_sized, item_told, items_again)

pub returns : goal.returns
returns c = items_all _ _ _ _ _ _ _ c.loop-item.invariant.3 (left_none c.loop-item.item-iterator c.in-None.ensures.steps)
