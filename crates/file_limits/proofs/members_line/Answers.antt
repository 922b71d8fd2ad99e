-- The closure answers how many elements a list has, which is what it counts.
use Rattle.std.proofs.Common.{rules}
use Rattle.paper.specs.Rules.{members_at}
use Rattle.file_limits.proofs.members_line.Goals as goal

pub returns : goal.returns
returns c = c.passing_line.ensures (members_at c.args.place) (λ f w e. search rules)
