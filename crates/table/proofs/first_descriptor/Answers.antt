-- The loop: the sum of the counts so far.
use Rattle.std.proofs.Common.{rules}
use Rattle.table.proofs.Laws.{sum_none, sum_again}
use Rattle.table.proofs.first_descriptor.Goals as goal

pub loop-k-init : goal.loop-k-init
loop-k-init c = search (rules, sum_none)

pub loop-k-preserved : goal.loop-k-preserved
loop-k-preserved c = search (rules, sum_again)
