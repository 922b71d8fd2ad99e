-- Case by case.
use Rattle.std.proofs.Common.{rules}
use Rattle.judge_entries.proofs.Passes.{grant_of_returns, grant_of_calls}
use Rattle.judge_entries.proofs.code_grant_at.Goals as goal
use Rattle.judge_entries.proofs.code_grant_at.Goals.{in-Return, in_default}

pub returns-then-matches : goal.returns-then-matches
returns-then-matches c = elim c.match-matches.branch [
  | in-Return w ↦ search (rules, grant_of_returns)
  | in_default w ↦ search rules
]

pub returns-else-matches : goal.returns-else-matches
returns-else-matches c = elim c.match-matches.branch [
  | in-Return w ↦ search rules
  | in_default w ↦ search (rules, grant_of_calls)
]
