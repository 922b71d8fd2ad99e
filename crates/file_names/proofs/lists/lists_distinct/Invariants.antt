-- The scan over the fields.
use Rattle.std.proofs.Common.{◌≡◌, length}
use Rattle.file_names.specs.Separate.{lists_separate}
use Rattle.file_names.proofs.lists.lists_distinct.Given as goal

abbrev pub invariant-loop-i : goal.invariant-loop-i
invariant-loop-i l =
    lists_separate l.file.fields.now l.words.words.now l.words.starts.now l.i (length l.file.fields.now)
    ≡ lists_separate l.file.fields.now l.words.words.now l.words.starts.now 0 (length l.file.fields.now)
