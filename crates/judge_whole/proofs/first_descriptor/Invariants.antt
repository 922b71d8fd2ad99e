-- The sum over the entries passed.
use Rattle.std.proofs.Common.{◌≡◌, ◌≤◌, ◌*◌}
use Rattle.table.specs.Reach.{word_values}
use Rattle.paper.specs.Table.{first_descriptor}
use Rattle.judge_whole.proofs.first_descriptor.Given as goal

abbrev pub invariant-loop-k : goal.invariant-loop-k
invariant-loop-k g l = (l.first ≡ first_descriptor l.case.table.now l.k) × (l.first ≤ 2 * word_values * l.k)
