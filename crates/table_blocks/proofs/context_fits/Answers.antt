-- The tests, one after another.
use Rattle.std.proofs.Common.{arith}
use Rattle.std.proofs.lemmas.Grind.{common_steps}
use Rattle.paper.specs.Table.{context_fits}
use Rattle.table_blocks.proofs.context_fits.Goals as goal

pub returns-then-word-le-VARIABLE-2 : goal.returns-then-word-le-VARIABLE-2
unfolding context_fits
returns-then-word-le-VARIABLE-2 c = grind (arith, common_steps)

pub returns-else-word-le-VARIABLE-2 : goal.returns-else-word-le-VARIABLE-2
unfolding context_fits
returns-else-word-le-VARIABLE-2 c = grind (arith, common_steps)
