-- The tests, one after another.
use Rattle.std.proofs.Common.{arith}
use Rattle.std.proofs.lemmas.Grind.{common_steps}
use Rattle.paper.specs.Table.{descriptor_fits}
use Rattle.table_blocks.proofs.descriptor_fits.Goals as goal

pub returns-then-grant_fits : goal.returns-then-grant_fits
unfolding descriptor_fits
returns-then-grant_fits c = grind (arith, common_steps)

pub returns-else-grant_fits : goal.returns-else-grant_fits
unfolding descriptor_fits
returns-else-grant_fits c = grind (arith, common_steps)
