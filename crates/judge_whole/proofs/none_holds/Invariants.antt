-- The loop: no descriptor that was passed grants the event.
use Rattle.judge_whole.proofs.Laws.{NoneUpTo}
use Rattle.judge_whole.proofs.none_holds.Given as goal

abbrev pub invariant-loop-i : goal.invariant-loop-i
invariant-loop-i g l = NoneUpTo l.case.table.now l.first l.n l.case.event l.i
