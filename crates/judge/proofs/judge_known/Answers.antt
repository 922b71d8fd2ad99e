-- Each refusal in the order of the paper, then the verdict.
use Rattle.std.proofs.Common.{rules}
use Rattle.judge.proofs.Laws.{no_frame, too_many_frames, allocation_refused, operation_refused, event_judged}
use Rattle.judge.proofs.judge_known.Goals as goal

pub returns-then-is_empty : goal.returns-then-is_empty
returns-then-is_empty c = search (rules, no_frame, too_many_frames)

pub returns-then-allocation-gt-FRAMES : goal.returns-then-allocation-gt-FRAMES
returns-then-allocation-gt-FRAMES c = search (rules, allocation_refused)

pub returns-in_default : goal.returns-in_default
returns-in_default c = search (rules, operation_refused)

pub returns : goal.returns
returns c = search (rules, event_judged)
