-- Unread elements fall; what the frames swallowed so far leave decides (`Begins`).
use Rattle.std.proofs.Common.{length}
use Rattle.judge_pattern.proofs.Laws.{Begins}
use Rattle.judge_pattern.proofs.+walk.Given as goal

abbrev pub decreases-walk : goal.decreases-walk
decreases-walk l = length l.pattern.now

abbrev pub invariant-loop-k : goal.invariant-loop-k
invariant-loop-k l = Begins l.functions l.pattern l.stack l.elements l.left

abbrev pub decreases-loop-k : goal.decreases-loop-k
decreases-loop-k l = length l.left
