-- The names ascend so far.
use Rattle.std.proofs.Common.{rules}
use Rattle.text_order.proofs.Laws.{ascends_one, ascends_more}
use Rattle.text_order.proofs.ascending.Goals as goal

pub loop-last-init : goal.loop-last-init
loop-last-init c = search (rules, ascends_one)

pub loop-last-preserved : goal.loop-last-preserved
loop-last-preserved c = search (rules, ascends_more)
