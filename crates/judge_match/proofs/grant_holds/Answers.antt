-- Every listed domain, else those of the set.
use Rattle.std.proofs.Common.{rules}
use Rattle.judge_match.proofs.Laws.{every_granted, set_decides}
use Rattle.judge_match.proofs.grant_holds.Goals as goal

pub returns-then-word-eq-EVERY : goal.returns-then-word-eq-EVERY
returns-then-word-eq-EVERY g c = search (rules, every_granted)

pub returns : goal.returns
returns g c = search (rules, set_decides)
