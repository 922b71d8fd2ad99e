-- The walk: the elements that are left are the scalar exactly when all are; what is left is spaced.
use Rattle.std.proofs.Common.{◌≡◌, ◌+◌, ◌-◌, length}
use Rattle.paper.specs.Common.{all_of}
use Rattle.paper.specs.Scalars.{is_scalar}
use Rattle.paper.specs.Lists.{elements_in}
use Rattle.text_lists.specs.Walk.{elements_left, SpacedFrom}
use Rattle.text_lists.proofs.all_are.Given as goal

abbrev pub invariant-loop-at : goal.invariant-loop-at
invariant-loop-at l = SpacedFrom l.s l.at × (all_of (is_scalar l.scalar) (elements_left l.s l.at) ≡ all_of (is_scalar l.scalar) (elements_in l.s))

abbrev pub decreases-loop-at : goal.decreases-loop-at
decreases-loop-at l = length l.s + 3 - l.at
