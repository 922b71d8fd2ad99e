-- The chain over the places is the test of each.
use Rattle.std.proofs.Common.{rules, tests}
use Rattle.paper.specs.Limits.{most_descriptors}
use Rattle.paper.specs.Table.{descriptors_fit}
use Rattle.laws.proofs.Mirrors.{below_tested}
use Rattle.table_blocks.specs.Parts.{descriptor_block_fits}
use Rattle.table_test.proofs.descriptors_fit.Goals as goal

pub returns : goal.returns
unfolding descriptors_fit
returns c =
    let told = below_tested (descriptor_block_fits c.args.t.now c.first_descriptor-descriptors.result) most_descriptors c.all.ensures.ran (cc) (λ x b q k. search (rules, tests)) in
    rw (← c.count.ensures.0, ← c.first_descriptor-descriptors.ensures.0) told
