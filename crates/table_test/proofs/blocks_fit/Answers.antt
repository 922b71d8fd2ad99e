-- The tests, one after another.
use Rattle.std.proofs.Common.{arith}
use Rattle.std.proofs.lemmas.Grind.{common_steps}
use Rattle.table_blocks.specs.Parts.{blocks_fit}
use Rattle.table_test.proofs.blocks_fit.Goals as goal

pub returns-then-members_fit-2 : goal.returns-then-members_fit-2
unfolding blocks_fit
returns-then-members_fit-2 c = grind (arith, common_steps)

pub returns-else-members_fit-2 : goal.returns-else-members_fit-2
unfolding blocks_fit
returns-else-members_fit-2 c = grind (arith, common_steps)
