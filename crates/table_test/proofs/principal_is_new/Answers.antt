-- The chain over the entries before is the test of each.
use Rattle.std.proofs.Common.{rules, tests}
use Rattle.paper.specs.Table.{one_principal}
use Rattle.laws.proofs.Mirrors.{below_tested, same_slices}
use Rattle.table_blocks.specs.Parts.{differs_from}
use Rattle.table_test.proofs.principal_is_new.Goals as goal

pub returns : goal.returns
unfolding one_principal
returns c = below_tested (differs_from c.args.t.now c.args.k) c.args.k c.all.ensures.ran (cc) (λ x b q k. search (rules, tests, same_slices))
