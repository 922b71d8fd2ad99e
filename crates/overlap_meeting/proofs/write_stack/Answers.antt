-- The loop: the frames written so far, and those that are left.
use Rattle.std.proofs.Common.{refl, rules}
use Rattle.overlap_meeting.proofs.Writing.{no_frame_written, frame_written, frames_written, items_counted}
use Rattle.overlap_meeting.proofs.write_stack.Goals as goal

pub loop-word-init : goal.loop-word-init
loop-word-init c = search (rules, no_frame_written)

pub loop-word-preserved : goal.loop-word-preserved
loop-word-preserved c =
    let n = items_counted _ _ _ c.requires c.loop-word.auto.word-items in
    let l = items_counted _ _ _ c.requires refl in
    frame_written _ _ _ _ _ _ _ c.loop-word.invariant (rw l at c.loop-word-test.true) n _ c.at-left.ensures.value

pub returns : goal.returns
returns c =
    let n = items_counted _ _ _ c.requires c.loop-word.auto.word-items in
    let l = items_counted _ _ _ c.requires refl in
    frames_written _ _ _ _ _ _ _ c.loop-word.invariant (rw l at c.loop-word-test.false) n _
