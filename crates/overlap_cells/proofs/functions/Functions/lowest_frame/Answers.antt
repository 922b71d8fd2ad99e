-- Each arm is a clause of `lowest_frame`.
use Rattle.std.proofs.Common.{rules}
use Rattle.overlap_cells.specs.Best.{lowest_frame, frame_of}
use Rattle.overlap_cells.proofs.functions.Functions.lowest_frame.Goals as goal

pub returns-in-All : goal.returns-in-All
unfolding lowest_frame frame_of
returns-in-All c = search rules

pub returns-in-Function : goal.returns-in-Function
unfolding lowest_frame frame_of
returns-in-Function c = search rules

pub returns-in-Domain : goal.returns-in-Domain
unfolding lowest_frame
returns-in-Domain c = search rules
