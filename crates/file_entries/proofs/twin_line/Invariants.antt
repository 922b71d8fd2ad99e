-- The loop: a twin among the entries that are left, of those or of one that was passed, is a twin of all.
use Rattle.std.proofs.Common.{◌≡◌, ◌+◌, ◌≤◌, length}
use Rattle.paper.specs.Limits.{most_entries}
use Rattle.paper.specs.Rules.{twin_after, twin_principal}
use Rattle.file_fields.specs.Stretches.{fields_of, left_of}
use Rattle.file_entries.specs.Principals.{entries_below, AllHashed}
use Rattle.std.specs.Iterator.Adapters.{enumerate_source, enumerate_count}
use Rattle.file_entries.proofs.twin_line.Given as goal

abbrev pub invariant-loop-k : goal.invariant-loop-k
invariant-loop-k l =
    (goal.iterator-loop-k).can_next l.k-iterator ×
    (goal.iterator-loop-k).is_finite l.k-iterator ×
    ((enumerate_source l.k-iterator).rest.file ≡ l.file) ×
    (length l.bounds ≡ most_entries) ×
    (length l.hashes ≡ most_entries) ×
    AllHashed l.file.text.now l.file.fields.now l.bounds l.hashes (enumerate_count l.k-iterator) ×
    (enumerate_count l.k-iterator + length (left_of (enumerate_source l.k-iterator)) ≤ most_entries) ×
    (twin_after (entries_below l.file.text.now l.file.fields.now l.bounds (enumerate_count l.k-iterator)) (left_of (enumerate_source l.k-iterator)) ≡ twin_principal (fields_of l.file))
