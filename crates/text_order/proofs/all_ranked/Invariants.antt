-- The names that are left are apart, so far as all are.
use Rattle.std.proofs.Common.{◌≡◌, false, [], ◌+◌, ◌-◌, length}
use Rattle.text_order.proofs.Laws.{LeftApart}
use Rattle.paper.specs.Lists.{elements_in}
use Rattle.paper.specs.Rules.{repeats}
use Rattle.text_lists.specs.Walk.{SpacedFrom}
use Rattle.text_order.proofs.all_ranked.Given as goal

abbrev pub invariant-loop-element : goal.invariant-loop-element
invariant-loop-element l = SpacedFrom l.s l.at × (LeftApart l.s l.places (l.last + 1) l.at → repeats [] (elements_in l.s) ≡ false)

abbrev pub decreases-loop-element : goal.decreases-loop-element
decreases-loop-element l = length l.s + 3 - l.at
