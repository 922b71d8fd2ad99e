-- The loop: the first long pattern of what is left is the first of all.
use Rattle.std.proofs.Common.{◌≡◌, length}
use Rattle.paper.specs.Rules.{first_with, long_pattern}
use Rattle.file_fields.specs.Fields.{between}
use Rattle.file_fields.specs.Stretches.{fields_of}
use Rattle.file_limits.proofs.long_line.Given as goal

abbrev pub invariant-loop-field : goal.invariant-loop-field
invariant-loop-field l =
    first_with long_pattern (between l.file.text.now l.file.fields.now l.field-index (length l.file.fields.now)) ≡ first_with long_pattern (fields_of l.file)
