-- The loop: the bytes that pass end from i on where they end from `at` on.
use Rattle.std.proofs.Common.{◌≡◌, ◌+◌, ◌-◌, ◌≤◌, length, drop}
use Rattle.text_bytes.specs.Classes.{run}
use Rattle.text_bytes.proofs.part_end.Given as goal

abbrev pub invariant-loop-i : goal.invariant-loop-i
invariant-loop-i g l = (l.i ≤ length l.s) × (l.i + run g.B.PartBytes.test (drop l.i l.s) ≡ l.at + run g.B.PartBytes.test (drop l.at l.s))

abbrev pub decreases-loop-i : goal.decreases-loop-i
decreases-loop-i g l = length l.s - l.i
