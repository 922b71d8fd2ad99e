-- A table that is not well formed is refused, any other judged as it stands.
use Rattle.std.proofs.Common.{rules}
use Rattle.judge.proofs.Laws.{table_refused, table_judged}
use Rattle.judge.proofs.judge.Goals as goal

pub returns-then-not-well_formed : goal.returns-then-not-well_formed
returns-then-not-well_formed c = search (rules, table_refused)

pub returns : goal.returns
returns c = search (rules, table_judged)
