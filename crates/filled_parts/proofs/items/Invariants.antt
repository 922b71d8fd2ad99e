-- The loop: the items before those that are left are there.
use mathlib.Core.List.{flat_map}
use Rattle.paper.specs.Entries.{items_of}
use Rattle.paper.specs.Filled.{item_text}
use Rattle.file_fields.specs.Stretches.{stretch_of}
use Rattle.filled_parts.proofs.Loops.{Walking}
use Rattle.filled_parts.proofs.items.Given as goal

abbrev pub invariant-loop-of_item : goal.invariant-loop-of_item
invariant-loop-of_item g l =
    Walking g.S.Sink.Fits g.S.Sink.Put (item_text l.access) (flat_map (item_text l.access) (items_of l.access (stretch_of l.fields))) l.initial.sink l.of_item-iterator l.sink
