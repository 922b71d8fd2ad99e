-- Each arm is a clause of `common_frame`.
use Rattle.std.proofs.Common.{rules}
use Rattle.overlap_cells.specs.Best.{lowest_frame, common_frame, frame_of}
use Rattle.overlap_cells.proofs.Beginnings.{met, other_domain}
use Rattle.overlap_cells.proofs.functions.Functions.common_frame.Goals as goal

pub returns-in-All-default : goal.returns-in-All-default
unfolding common_frame
returns-in-All-default c = search rules

pub returns-in-Function-default : goal.returns-in-Function-default
unfolding common_frame frame_of
returns-in-Function-default c = search (rules, met)

pub returns-in-Domain-All : goal.returns-in-Domain-All
unfolding common_frame
returns-in-Domain-All c = search rules

pub returns-in-Domain-Function : goal.returns-in-Domain-Function
unfolding common_frame frame_of
returns-in-Domain-Function c = search (rules, met)

pub returns-then-d-e : goal.returns-then-d-e
unfolding common_frame lowest_frame
returns-then-d-e c = search rules

pub returns-else-d-e : goal.returns-else-d-e
returns-else-d-e c = search (rules, other_domain)
