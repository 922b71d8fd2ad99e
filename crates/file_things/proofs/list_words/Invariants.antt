-- The loop: the words so far and those of the fields that are left are those of all.
use Rattle.std.proofs.Common.{◌≡◌, ◌+◌, ◌*◌, ◌≤◌, length}
use Rattle.file_fields.specs.Fields.{between}
use Rattle.file_fields.specs.Stretches.{fields_of}
use Rattle.file_things.specs.Things.{things_of}
use Rattle.file_things.specs.Writable.{most_words}
use Rattle.file_things.proofs.list_words.Given as goal

abbrev pub invariant-loop-field : goal.invariant-loop-field
invariant-loop-field l =
    (l.words + length (things_of (between l.file.text.now l.file.fields.now l.field-index (length l.file.fields.now))) ≡ length (things_of (fields_of l.file)))
    × (l.words ≤ most_words * l.field-index)
