-- The loop: k entries are written, and those that are left are to come.
use Rattle.std.proofs.Common.{◌≡◌}
use Rattle.file_fields.specs.Stretches.{fields_of, left_of}
use Rattle.file_table.proofs.Entered.{EntriesWritten}
use Rattle.file_table.proofs.write_entries.Given as goal

abbrev pub invariant-loop-entry : goal.invariant-loop-entry
invariant-loop-entry l =
    (goal.iterator-loop-entry).can_next l.entry-iterator ×
    (goal.iterator-loop-entry).is_finite l.entry-iterator ×
    (l.entry-iterator.rest.file ≡ l.file) ×
    EntriesWritten (fields_of l.file) (left_of l.entry-iterator) l.k l.out
