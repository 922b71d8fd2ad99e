-- Each arm is a clause of `meets_frame`.
use Rattle.std.proofs.Common.{rules}
use Rattle.laws.specs.Frames.{meets_frame}
use Rattle.overlap_cells.proofs.functions.Functions.meets.Goals as goal

pub returns-in-All : goal.returns-in-All
unfolding meets_frame
returns-in-All c = search rules

pub returns-in-Function : goal.returns-in-Function
unfolding meets_frame
returns-in-Function c = search rules

pub returns-in-Domain : goal.returns-in-Domain
unfolding meets_frame
returns-in-Domain c = search rules
