-- The name stands among those that are left exactly if it stands among all of them.
use Rattle.std.proofs.Common.{◌≡◌, ◌+◌, ◌-◌, length}
use Rattle.paper.specs.Common.{among}
use Rattle.text_lists.specs.Walk.{elements_left, SpacedFrom}
use Rattle.text_repeats.proofs.stands_from.Given as goal

abbrev pub invariant-loop-element : goal.invariant-loop-element
invariant-loop-element l = SpacedFrom l.s l.at × (among l.x (elements_left l.s l.at) ≡ among l.x (elements_left l.s l.from))

abbrev pub decreases-loop-element : goal.decreases-loop-element
decreases-loop-element l = length l.s + 3 - l.at
