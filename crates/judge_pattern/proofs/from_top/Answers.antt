-- What is left of both decides.
use Rattle.std.proofs.Common.{rules}
use Rattle.judge_pattern.proofs.Ends.{no_frame_left, top_differs, top_meets}
use Rattle.judge_pattern.proofs.from_top.Goals as goal

pub returns-in_err-top : goal.returns-in_err-top
returns-in_err-top c = search (rules, no_frame_left)

pub returns-then-not-meets : goal.returns-then-not-meets
returns-then-not-meets c = search (rules, top_differs)

pub loop-last-preserved : goal.loop-last-preserved
loop-last-preserved c = search (rules, top_meets)
