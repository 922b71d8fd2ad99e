-- The loop: the test of the hashes so far.
use Rattle.std.proofs.Common.{◌≡◌, ◌≤◌}
use Rattle.paper.specs.Common.{up_to}
use Rattle.file_entries.specs.Principals.{is_other_hash}
use Rattle.file_entries.proofs.Passed.is_new_hash.Given as goal

abbrev pub invariant-loop-other : goal.invariant-loop-other
invariant-loop-other l = (l.other-index ≤ l.k) × (l.new ≡ up_to (is_other_hash l.self.hashes.now l.k) l.other-index)
