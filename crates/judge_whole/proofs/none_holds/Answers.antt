-- The loop: no descriptor that was passed grants the event.
use Rattle.std.proofs.Common.{rules}
use Rattle.judge_whole.proofs.Laws.{none_yet, one_not, none_at_all, perhaps_one}
use Rattle.judge_whole.proofs.none_holds.Goals as goal

pub loop-i-init : goal.loop-i-init
loop-i-init g c = search (rules, none_yet)

pub returns-then-grant_holds : goal.returns-then-grant_holds
returns-then-grant_holds g c = search (rules, perhaps_one)

pub loop-i-preserved : goal.loop-i-preserved
loop-i-preserved g c = search (rules, one_not)

pub returns : goal.returns
returns g c = search (rules, none_at_all)
