-- The loop: the index knows what the fields before name, and the line of what is left is the line of all.
use Rattle.std.proofs.Common.{◌≡◌, [], ◌-◌, ◌≤◌, length}
use Rattle.paper.specs.Rules.{repeated}
use Rattle.file_fields.specs.Fields.{between}
use Rattle.file_index.specs.Buckets.{Index}
use Rattle.file_names.specs.Naming.{named, names_to}
use Rattle.file_names.proofs.indexes.index_all.Given as goal

abbrev pub invariant-loop-i : goal.invariant-loop-i
invariant-loop-i l = (length l.ix ≡ length l.initial.ix) × Index l.file.text.now l.ix l.names (names_to (named l.naming) l.file.text.now l.file.fields.now l.i) ×
    (repeated (named l.naming) (names_to (named l.naming) l.file.text.now l.file.fields.now l.i) (between l.file.text.now l.file.fields.now l.i (length l.file.fields.now))
    ≡ repeated (named l.naming) [] (between l.file.text.now l.file.fields.now 0 (length l.file.fields.now)))
