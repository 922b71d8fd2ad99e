-- The tests, one after another.
use Rattle.std.proofs.Common.{arith}
use Rattle.std.proofs.lemmas.Grind.{common_steps}
use Rattle.paper.specs.Table.{bound_by}
use Rattle.table_test.proofs.bound_by.Goals as goal

pub returns-then-bound_at-2 : goal.returns-then-bound_at-2
unfolding bound_by
returns-then-bound_at-2 c = grind (arith, common_steps)

pub returns-else-bound_at-2 : goal.returns-else-bound_at-2
unfolding bound_by
returns-else-bound_at-2 c = grind (arith, common_steps)
