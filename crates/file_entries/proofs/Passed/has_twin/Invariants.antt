-- New by its hash, or the loop: a twin among the entries that are left is a twin among all.
use Rattle.std.proofs.Common.{◌≡◌}
use Rattle.paper.specs.Common.{any_of}
use Rattle.paper.specs.Rules.{same_principal}
use Rattle.file_entries.specs.Passed.{passed_entry, passed_before}
use Rattle.file_entries.proofs.Passed.has_twin.Given as goal

abbrev pub invariant-loop-j : goal.invariant-loop-j
invariant-loop-j l =
    any_of (same_principal (passed_entry l.self l.k)) (passed_before l.self l.j) ≡ any_of (same_principal (passed_entry l.self l.k)) (passed_before l.self l.k)
