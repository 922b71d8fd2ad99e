-- The chain over the places is the test of each.
use Rattle.std.proofs.Common.{rules, tests}
use Rattle.paper.specs.Limits.{most_entries}
use Rattle.paper.specs.Table.{entries_fit}
use Rattle.laws.proofs.Mirrors.{below_tested}
use Rattle.table_blocks.specs.Parts.{entry_block_fits}
use Rattle.table_test.proofs.entries_fit.Goals as goal

pub returns : goal.returns
unfolding entries_fit
returns c = below_tested (entry_block_fits c.args.t.now) most_entries c.all.ensures.ran (cc) (λ x b q k. search (rules, tests))
