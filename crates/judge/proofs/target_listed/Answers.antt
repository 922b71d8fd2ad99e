-- The number is below the count.
use Rattle.std.proofs.Common.{rules}
use Rattle.judge.proofs.Laws.{number_listed}
use Rattle.judge.proofs.target_listed.Goals as goal

pub returns : goal.returns
returns c = search (rules, number_listed)
