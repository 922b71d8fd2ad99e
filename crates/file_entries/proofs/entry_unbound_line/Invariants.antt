-- The loop: the first of what is left is the first of all.
use Rattle.std.proofs.Common.{◌≡◌, ◌+◌}
use Rattle.paper.specs.Rules.{first_with, is_unbound}
use Rattle.file_fields.specs.Fields.{between}
use Rattle.file_fields.specs.Stretches.{stretch_of}
use Rattle.file_entries.proofs.entry_unbound_line.Given as goal

abbrev pub invariant-loop-field : goal.invariant-loop-field
invariant-loop-field l =
    first_with (is_unbound (stretch_of l.entry)) (between l.entry.file.text.now l.entry.file.fields.now (l.entry.from + l.field-index) l.entry.to)
    ≡ first_with (is_unbound (stretch_of l.entry)) (stretch_of l.entry)
