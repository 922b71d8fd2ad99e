-- The names that are left are apart, so far as all are.
use Rattle.std.proofs.Common.{rules}
use Rattle.text_order.proofs.Laws.{apart_first, none_apart, apart_again}
use Rattle.text_lists.proofs.Walk.{spaced_at_first, found_less, spaced_found}
use mathlib.Core.Bool.{false≢true}
use Rattle.text_order.proofs.all_ranked.Goals as goal

pub loop-element-init : goal.loop-element-init
loop-element-init c = (search (rules, spaced_at_first), search (rules, apart_first))

pub returns : goal.returns
returns c = λ t. c.loop-element.invariant.1 (search (rules, none_apart))

pub returns-then-not-is_ranked : goal.returns-then-not-is_ranked
returns-then-not-is_ranked c = λ t. absurd (false≢true t)

pub loop-element-smaller : goal.loop-element-smaller
loop-element-smaller c = search (rules, found_less)

pub loop-element-preserved : goal.loop-element-preserved
loop-element-preserved c = (search (rules, spaced_found), search (rules, apart_again))
