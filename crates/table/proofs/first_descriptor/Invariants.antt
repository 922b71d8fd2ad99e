-- The loop: the sum of the counts so far.
use Rattle.std.proofs.Common.{◌≡◌, ◌≤◌, ◌*◌}
use Rattle.paper.specs.Table.{first_descriptor}
use Rattle.table.specs.Reach.{word_values}
use Rattle.table.proofs.first_descriptor.Given as goal

abbrev pub invariant-loop-k : goal.invariant-loop-k
invariant-loop-k l = (l.sum ≡ first_descriptor l.t l.k) × (l.sum ≤ 2 * word_values * l.k)
