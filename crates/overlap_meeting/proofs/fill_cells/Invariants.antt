-- The loop: the cells from k on hold the best stacks.
use Rattle.overlap_cells.specs.Cells.{Filled}
use Rattle.overlap_meeting.proofs.fill_cells.Given as goal

abbrev pub invariant-loop-k : goal.invariant-loop-k
invariant-loop-k l = Filled l.pair.functions.now.domains.now l.pair.domain l.pair.p.now l.pair.q.now l.cells.chains l.k
