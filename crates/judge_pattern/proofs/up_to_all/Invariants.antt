-- What is left of both decides (`Fits`).
use Rattle.std.proofs.Common.{length}
use Rattle.judge_pattern.proofs.Laws.{Fits}
use Rattle.judge_pattern.proofs.up_to_all.Given as goal

abbrev pub invariant-loop-one : goal.invariant-loop-one
invariant-loop-one l = Fits l.functions l.pattern l.stack l.elements l.frames

abbrev pub decreases-loop-one : goal.decreases-loop-one
decreases-loop-one l = length l.elements
