-- The chain over the part is the test of each word.
use Rattle.std.proofs.Common.{rules, tests, refl}
use Rattle.std.specs.Prelude.{nat_eq}
use Rattle.paper.specs.Table.{zeros}
use Rattle.laws.proofs.Mirrors.{part_tested}
use Rattle.table_blocks.proofs.is_zero.Goals as goal

pub returns : goal.returns
unfolding zeros
returns c = let a = c.args in part_tested (λ w. nat_eq w 0) a.t.now _ a.at a.n refl c.part.ensures c.all.ensures.ran (cc) (λ x b q k. search (rules, tests))
