-- What is left of both decides (`Fits`).
use Rattle.std.proofs.Common.{rules}
use Rattle.judge_pattern.proofs.Laws.{reaches_all, frames_end, frame_differs, frame_fits, both_end, frames_left}
use Rattle.judge_pattern.proofs.up_to_all.Goals as goal

pub returns-then-one-eq-ALL : goal.returns-then-one-eq-ALL
returns-then-one-eq-ALL c = reaches_all _ _ _ _ _ c.loop-one.invariant _ _ c.in-Some.ensures.cases c.if-one-eq-ALL.true

pub returns-in_default-split_first : goal.returns-in_default-split_first
returns-in_default-split_first c = search (rules, frames_end)

pub returns-then-not-meets : goal.returns-then-not-meets
returns-then-not-meets c =
    frame_differs _ _ _ _ _ c.loop-one.invariant _ _ c.in-Some.ensures.cases c.if-one-eq-ALL.false _ _ c.in-Some-split_first.ensures.cases _ c.meets.ensures (search rules)

pub loop-one-preserved : goal.loop-one-preserved
loop-one-preserved c =
    frame_fits _ _ _ _ _ c.loop-one.invariant _ _ c.in-Some.ensures.cases c.if-one-eq-ALL.false _ _ c.in-Some-split_first.ensures.cases _ c.meets.ensures (search rules)

pub returns-then-is_empty : goal.returns-then-is_empty
returns-then-is_empty c = search (rules, both_end)

pub returns-else-is_empty : goal.returns-else-is_empty
returns-else-is_empty c = search (rules, frames_left)
