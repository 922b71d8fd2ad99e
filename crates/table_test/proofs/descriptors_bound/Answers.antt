-- The chain over the descriptors is the test of each.
use Rattle.std.proofs.Common.{rules, tests}
use Rattle.laws.proofs.Mirrors.{below_tested}
use Rattle.table_blocks.specs.Parts.{descriptor_bound}
use Rattle.table_test.proofs.descriptors_bound.Goals as goal

pub returns : goal.returns
returns c = let a = c.args in below_tested (descriptor_bound a.t.now a.entry a.first) a.n c.all.ensures.ran (cc) (λ x b q k. search (rules, tests))
