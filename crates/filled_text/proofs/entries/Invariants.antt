-- The loop: the entries before those that are left are there.
use mathlib.Core.List.{flat_map}
use Rattle.paper.specs.Entries.{entries_of}
use Rattle.paper.specs.Filled.{entry_text}
use Rattle.file_fields.specs.Stretches.{fields_of}
use Rattle.filled_parts.proofs.Loops.{Walking}
use Rattle.filled_text.proofs.entries.Given as goal

abbrev pub invariant-loop-fields : goal.invariant-loop-fields
invariant-loop-fields g l = Walking g.S.Sink.Fits g.S.Sink.Put entry_text (flat_map entry_text (entries_of (fields_of l.file))) l.initial.sink l.fields-iterator l.sink
