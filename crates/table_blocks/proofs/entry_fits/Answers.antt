-- The tests, one after another.
use Rattle.std.proofs.Common.{arith}
use Rattle.std.proofs.lemmas.Grind.{common_steps}
use Rattle.paper.specs.Table.{entry_fits}
use Rattle.table_blocks.proofs.entry_fits.Goals as goal

pub returns-then-grant_fits-2 : goal.returns-then-grant_fits-2
unfolding entry_fits
returns-then-grant_fits-2 c = grind (arith, common_steps)

pub returns-else-grant_fits-2 : goal.returns-else-grant_fits-2
unfolding entry_fits
returns-else-grant_fits-2 c = grind (arith, common_steps)
