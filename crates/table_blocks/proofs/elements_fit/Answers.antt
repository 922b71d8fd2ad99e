-- The chain over the places is the test of each.
use Rattle.std.proofs.Common.{rules, tests}
use Rattle.paper.specs.Limits.{most_elements}
use Rattle.laws.proofs.Mirrors.{below_tested}
use Rattle.table_blocks.specs.Parts.{element_fits}
use Rattle.table_blocks.proofs.elements_fit.Goals as goal

pub returns : goal.returns
returns c = below_tested (element_fits c.args.t.now c.args.at) most_elements c.all.ensures.ran (cc) (λ x b q k. search (rules, tests))
