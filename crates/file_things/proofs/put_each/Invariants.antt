-- The walk: the elements before a place are written.
use Rattle.std.proofs.Common.{◌+◌, ◌-◌, length}
use Rattle.text_lists.specs.Walk.{SpacedFrom}
use Rattle.file_things.proofs.Elements.{ElementsWritten}
use Rattle.file_things.proofs.put_each.Given as goal

abbrev pub invariant-loop-element : goal.invariant-loop-element
invariant-loop-element l = SpacedFrom l.s l.at × ElementsWritten l.fn.file.text.now l.fn.field l.kind l.s l.line l.start l.at l.initial.out l.out l.end

abbrev pub decreases-loop-element : goal.decreases-loop-element
decreases-loop-element l = length l.s + 3 - l.at
