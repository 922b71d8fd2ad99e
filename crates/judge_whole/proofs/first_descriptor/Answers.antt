-- The sum over the entries passed.
use Rattle.std.proofs.Common.{rules}
use Rattle.judge_whole.proofs.Laws.{none_before, next_begin}
use Rattle.judge_whole.proofs.first_descriptor.Goals as goal

pub loop-k-init : goal.loop-k-init
loop-k-init g c = (none_before _, search rules)

pub of_entry-requires-clause-k_bound : goal.of_entry-requires-clause-k_bound
of_entry-requires-clause-k_bound g c = search rules

pub loop-k-preserved : goal.loop-k-preserved
loop-k-preserved g c = next_begin _ _ _ _ c.of_entry.ensures c.end-first.ensures
