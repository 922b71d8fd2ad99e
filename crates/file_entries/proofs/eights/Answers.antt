-- The loop: the weight of the first k eights.
use Rattle.std.proofs.Common.{rules}
use Rattle.file_entries.proofs.Weights.{eights_start, eight_more, eights_end}
use Rattle.file_entries.proofs.eights.Goals as goal

pub loop-k-init : goal.loop-k-init
loop-k-init c = search (rules, eights_start)

pub loop-k-preserved : goal.loop-k-preserved
loop-k-preserved c = search (rules, eight_more)

pub returns : goal.returns
returns c = search (rules, eights_end)
