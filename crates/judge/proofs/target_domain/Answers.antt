-- The domain at the number.
use Rattle.std.proofs.Common.{rules}
use Rattle.judge.proofs.Laws.{number_domain}
use Rattle.judge.proofs.target_domain.Goals as goal

pub returns : goal.returns
returns c = search (rules, number_domain)
