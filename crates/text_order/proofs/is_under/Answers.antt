-- What is left of two names that were the same so far decides.
use Rattle.std.proofs.Common.{rules}
use Rattle.text_order.proofs.Laws.{place_less, place_fits, other_place_fits, under_told, under_again}
use Rattle.text_order.proofs.is_under.Goals as goal

pub loop-a-init : goal.loop-a-init
loop-a-init c = λ u. u

pub returns-then-x-y : goal.returns-then-x-y
returns-then-x-y c = search (rules, under_told)

pub overflow_add-i : goal.overflow_add-i
overflow_add-i c = search (rules, place_fits)

pub overflow_add-j : goal.overflow_add-j
overflow_add-j c = search (rules, other_place_fits)

pub loop-a-smaller : goal.loop-a-smaller
loop-a-smaller c = search (rules, place_less)

pub loop-a-preserved : goal.loop-a-preserved
loop-a-preserved c = search (rules, under_again)
