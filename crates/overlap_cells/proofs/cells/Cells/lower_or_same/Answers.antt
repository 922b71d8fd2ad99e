-- The loop: what is left of both stacks decides as all of them does.
use Rattle.std.proofs.Common.{rules}
use Rattle.overlap_cells.proofs.Chains.{all_frames, frames_end, frame_decides, frame_same}
use Rattle.overlap_cells.proofs.cells.Cells.lower_or_same.Goals as goal

pub loop-init : goal.loop-init
loop-init c = search (rules, all_frames)

pub returns-then-a-b : goal.returns-then-a-b
returns-then-a-b c = search (rules, frame_decides)

pub loop-preserved : goal.loop-preserved
loop-preserved c = search (rules, frame_same)

pub returns : goal.returns
returns c = search (rules, frames_end)
