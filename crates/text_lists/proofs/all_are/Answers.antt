-- The walk: the elements that are left are the scalar exactly when all are; what is left is spaced.
use Rattle.std.proofs.Common.{rules}
use Rattle.text_lists.proofs.Walk.{spaced_at_first}
use Rattle.text_lists.proofs.Scalars.{read_fits, read_less, spaced_read}
use Rattle.text_lists.proofs.Laws.{are_first, are_done, are_fails, are_again}
use Rattle.text_lists.proofs.all_are.Goals as goal

pub loop-at-init : goal.loop-at-init
loop-at-init c = (search (rules, spaced_at_first), search (rules, are_first))

pub returns-in_default : goal.returns-in_default
returns-in_default c = search (rules, are_fails)

pub overflow_add-at : goal.overflow_add-at
overflow_add-at c = search (rules, read_fits)

pub loop-at-smaller : goal.loop-at-smaller
loop-at-smaller c = search (rules, read_less)

pub loop-at-preserved : goal.loop-at-preserved
loop-at-preserved c = (search (rules, spaced_read), search (rules, are_again))

pub returns : goal.returns
returns c = search (rules, are_done)
