-- The scan over the fields.
use Rattle.std.proofs.Common.{◌≡◌, length}
use Rattle.paper.specs.Rules.{first_with, names_unknown, unknown_name}
use Rattle.file_fields.specs.Fields.{between}
use Rattle.file_names.proofs.unknown.unknown_line.Given as goal

abbrev pub invariant-loop-i : goal.invariant-loop-i
invariant-loop-i l =
    first_with (names_unknown (between l.file.text.now l.file.fields.now 0 (length l.file.fields.now))) (between l.file.text.now l.file.fields.now l.i (length l.file.fields.now))
    ≡ unknown_name (between l.file.text.now l.file.fields.now 0 (length l.file.fields.now))
