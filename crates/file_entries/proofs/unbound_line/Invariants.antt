-- The loop: the smaller of the line so far and the smallest of the entries that are left is the smallest of all.
use Rattle.std.proofs.Common.{◌≡◌}
use Rattle.paper.specs.Rules.{earlier, unbound_variable}
use Rattle.file_fields.specs.Stretches.{fields_of, left_of}
use Rattle.file_entries.proofs.Unbound.{unbound_in}
use Rattle.file_entries.proofs.unbound_line.Given as goal

abbrev pub invariant-loop-entry : goal.invariant-loop-entry
invariant-loop-entry l =
    (goal.iterator-loop-entry).can_next l.entry-iterator ×
    (goal.iterator-loop-entry).is_finite l.entry-iterator ×
    (earlier l.line (unbound_in (left_of l.entry-iterator)) ≡ unbound_variable (fields_of l.file))
