-- The chain over the places is the test of each.
use Rattle.std.proofs.Common.{rules, tests}
use Rattle.paper.specs.Limits.{most_members}
use Rattle.paper.specs.Table.{members_fit}
use Rattle.laws.proofs.Mirrors.{below_tested}
use Rattle.table_blocks.specs.Parts.{member_fits}
use Rattle.table_blocks.proofs.members_fit.Goals as goal

pub returns : goal.returns
unfolding members_fit
returns c = let a = c.args in below_tested (member_fits a.t.now a.at a.members a.domains) most_members c.all.ensures.ran (cc) (λ x b q k. search (rules, tests))
