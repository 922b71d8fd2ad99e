-- A name is there twice if it is so among those that are left; and if every name is looked for, only then.
use Rattle.std.proofs.Common.{true≢false, rules}
use Rattle.text_repeats.proofs.Laws.{first_yes, first_not, none_twice, twice_here, yes_again, not_again_behind}
use Rattle.text_lists.proofs.Walk.{spaced_at_first, found_from, found_to_lem, found_less, spaced_found}
use mathlib.Core.Bool.{false≢true}
use Rattle.text_repeats.proofs.repeats_from.Goals as goal

pub loop-element-init : goal.loop-element-init
loop-element-init c = (search (rules, spaced_at_first), search (rules, first_yes), search (rules, first_not))

pub returns-clause-when_true : goal.returns-clause-when_true
returns-clause-when_true c = λ t. absurd (false≢true t)

pub returns-clause-when_false : goal.returns-clause-when_false
returns-clause-when_false c = λ t z. c.loop-element.invariant.2 z (search (rules, none_twice))

pub stands_again-requires : goal.stands_again-requires
stands_again-requires c = search (rules, found_from, found_to_lem, spaced_found)

pub returns-then-stands_again-clause-when_true : goal.returns-then-stands_again-clause-when_true
returns-then-stands_again-clause-when_true c = λ t. c.loop-element.invariant.1 (search (rules, twice_here))

pub returns-then-stands_again-clause-when_false : goal.returns-then-stands_again-clause-when_false
returns-then-stands_again-clause-when_false c = λ t. absurd (true≢false t)

pub loop-element-smaller : goal.loop-element-smaller
loop-element-smaller c = search (rules, found_less)

pub loop-element-preserved : goal.loop-element-preserved
loop-element-preserved c = (search (rules, spaced_found), search (rules, yes_again), search (rules, not_again_behind))
