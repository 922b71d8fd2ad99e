-- The tests, one after another.
use Rattle.std.proofs.Common.{arith}
use Rattle.std.proofs.lemmas.Grind.{common_steps}
use Rattle.paper.specs.Table.{counts_fit}
use Rattle.table_test.proofs.counts_fit.Goals as goal

pub returns-then-entries-le-ENTRIES : goal.returns-then-entries-le-ENTRIES
unfolding counts_fit
returns-then-entries-le-ENTRIES c = grind (arith, common_steps)

pub returns-else-entries-le-ENTRIES : goal.returns-else-entries-le-ENTRIES
unfolding counts_fit
returns-else-entries-le-ENTRIES c = grind (arith, common_steps)
