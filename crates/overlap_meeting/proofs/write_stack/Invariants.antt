-- The loop: the frames written so far, and those that are left.
use Rattle.std.proofs.Common.{◌≡◌, ◌-◌, ◌++◌, take}
use Rattle.overlap_cells.specs.Cells.{stack_of, chain_stack}
use Rattle.overlap_meeting.proofs.write_stack.Given as goal

abbrev pub invariant-loop-word : goal.invariant-loop-word
invariant-loop-word l =
    chain_stack l.cells.chains l.fn.stack ≡ take l.word-index l.word-items ++ stack_of l.cells.chains (l.fn.stack.frames - l.word-index) l.left.base l.left.rest
