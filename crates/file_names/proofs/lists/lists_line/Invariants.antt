-- The words tell most files; where they say nothing, the scan over the fields.
use Rattle.std.proofs.Common.{◌≡◌, length}
use Rattle.paper.specs.Rules.{first_with, repeats_in_list}
use Rattle.file_fields.specs.Fields.{between}
use Rattle.file_names.proofs.lists.lists_line.Given as goal

abbrev pub invariant-loop-i : goal.invariant-loop-i
invariant-loop-i l =
    first_with repeats_in_list (between l.file.text.now l.file.fields.now l.i (length l.file.fields.now))
    ≡ first_with repeats_in_list (between l.file.text.now l.file.fields.now 0 (length l.file.fields.now))
