-- A name is there twice if it is so among those that are left; and if every name is looked for, only then.
use Rattle.std.proofs.Common.{◌≡◌, true, false, [], ◌+◌, ◌-◌, length}
use Rattle.paper.specs.Lists.{elements_in}
use Rattle.paper.specs.Rules.{repeats}
use Rattle.text_lists.specs.Walk.{elements_left, SpacedFrom}
use Rattle.text_repeats.proofs.repeats_from.Given as goal

abbrev pub invariant-loop-element : goal.invariant-loop-element
invariant-loop-element l = SpacedFrom l.s l.at × (repeats [] (elements_left l.s l.at) ≡ true → repeats [] (elements_in l.s) ≡ true) ×
    (l.from ≡ 0 → repeats [] (elements_left l.s l.at) ≡ false → repeats [] (elements_in l.s) ≡ false)

abbrev pub decreases-loop-element : goal.decreases-loop-element
decreases-loop-element l = length l.s + 3 - l.at
