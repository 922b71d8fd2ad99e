-- Each end by itself tells.
use Rattle.std.proofs.Common.{rules}
use Rattle.judge_pattern.proofs.FirstAndLast.{no_ends, last_differs, first_tells}
use Rattle.judge_pattern.proofs.ends_may_meet.Goals as goal

pub returns-in_default : goal.returns-in_default
returns-in_default c = search (rules, no_ends)

pub returns-then-may_have : goal.returns-then-may_have
returns-then-may_have c = search (rules, first_tells)

pub returns-else-may_have : goal.returns-else-may_have
returns-else-may_have c = search (rules, last_differs)
