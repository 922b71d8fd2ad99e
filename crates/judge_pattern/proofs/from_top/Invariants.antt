-- What is left of both decides.
use Rattle.std.proofs.Common.{◌≡◌, length}
use Rattle.judge_pattern.specs.Run.{matches_words}
use Rattle.judge_pattern.proofs.from_top.Given as goal

abbrev pub invariant-loop-last : goal.invariant-loop-last
invariant-loop-last l = matches_words l.functions l.pattern l.stack ≡ matches_words l.functions l.elements l.frames

abbrev pub decreases-loop-last : goal.decreases-loop-last
decreases-loop-last l = length l.elements
