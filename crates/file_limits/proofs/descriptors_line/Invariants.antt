-- The loop: what is left of the entries passes the limit where all of them do.
use Rattle.std.proofs.Common.{◌≡◌, ◌≤◌}
use Rattle.paper.specs.Entries.{entries_of, line_of_entry}
use Rattle.paper.specs.Rules.{passing, descriptors_in}
use Rattle.file_fields.specs.Stretches.{fields_of, left_of}
use Rattle.file_limits.proofs.descriptors_line.Given as goal

abbrev pub invariant-loop-entry : goal.invariant-loop-entry
invariant-loop-entry l =
    (goal.iterator-loop-entry).can_next l.entry-iterator ×
    (goal.iterator-loop-entry).is_finite l.entry-iterator ×
    (l.sum ≤ 256) ×
    (passing line_of_entry descriptors_in 256 l.sum (left_of l.entry-iterator) ≡ passing line_of_entry descriptors_in 256 0 (entries_of (fields_of l.file)))
