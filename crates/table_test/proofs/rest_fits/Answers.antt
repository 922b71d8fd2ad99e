-- The tests, one after another.
use Rattle.std.proofs.Common.{arith}
use Rattle.std.proofs.lemmas.Grind.{common_steps}
use Rattle.paper.specs.Table.{principals_differ, variables_bound}
use Rattle.table_blocks.specs.Parts.{rest_fits}
use Rattle.table_test.proofs.rest_fits.Goals as goal

pub returns-then-principals_differ : goal.returns-then-principals_differ
unfolding rest_fits principals_differ variables_bound
returns-then-principals_differ c = grind (arith, common_steps)

pub returns-else-principals_differ : goal.returns-else-principals_differ
unfolding rest_fits principals_differ variables_bound
returns-else-principals_differ c = grind (arith, common_steps)
