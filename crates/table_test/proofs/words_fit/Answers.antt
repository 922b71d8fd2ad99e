-- The tests, one after another.
use Rattle.std.proofs.Common.{arith}
use Rattle.std.proofs.lemmas.Grind.{common_steps}
use Rattle.table_test.proofs.Laws.{entries_few, whole}
use Rattle.table_test.proofs.words_fit.Goals as goal

pub rest_fits-requires : goal.rest_fits-requires
rest_fits-requires c = grind (arith, common_steps, entries_few)

pub returns-then-blocks_fit : goal.returns-then-blocks_fit
returns-then-blocks_fit c = grind (arith, common_steps, whole c.args.t.now)

pub returns-else-blocks_fit : goal.returns-else-blocks_fit
returns-else-blocks_fit c = grind (arith, common_steps, whole c.args.t.now)
