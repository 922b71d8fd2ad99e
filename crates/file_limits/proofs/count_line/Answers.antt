-- The closure answers one or none, which is what it counts.
use Rattle.std.proofs.Common.{rules}
use Rattle.paper.specs.Rules.{one_at}
use Rattle.file_limits.proofs.Laws.{one_weighs}
use Rattle.file_limits.proofs.count_line.Goals as goal

pub returns : goal.returns
returns c = c.passing_line.ensures (one_at c.args.place) (λ f w e. search (rules, one_weighs))
