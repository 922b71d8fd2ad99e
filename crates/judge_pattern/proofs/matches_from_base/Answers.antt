-- A run from the front, and the walk behind an `all`.
use Rattle.std.proofs.Common.{rules}
use Rattle.judge_pattern.proofs.Laws.{front_fails, front_never}
use Rattle.judge_pattern.proofs.matches_from_base.Goals as goal

pub returns-in-Fail : goal.returns-in-Fail
returns-in-Fail c = search (rules, front_fails, front_never)
