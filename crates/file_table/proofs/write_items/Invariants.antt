-- The loop: d descriptors are written, and the items that are left are to come.
use Rattle.std.proofs.Common.{◌≡◌, length}
use Rattle.paper.specs.Entries.{items_of}
use Rattle.file_fields.specs.Stretches.{fields_of, stretch_of, left_of}
use Rattle.file_table.proofs.Described.{ItemsWritten}
use Rattle.file_table.proofs.write_items.Given as goal

abbrev pub invariant-loop-item : goal.invariant-loop-item
invariant-loop-item l =
    (goal.iterator-loop-item).can_next l.item-iterator ×
    (goal.iterator-loop-item).is_finite l.item-iterator ×
    (l.item-iterator.rest.file ≡ l.entry.file) ×
    ItemsWritten (fields_of l.entry.file) l.access (items_of l.access (stretch_of l.entry)) (left_of l.item-iterator) l.d (length l.initial.out) l.out
