-- The tests, one after another.
use Rattle.std.proofs.Common.{arith}
use Rattle.std.proofs.lemmas.Grind.{common_steps}
use Rattle.paper.specs.Table.{bound_at}
use Rattle.table_test.proofs.bound_at.Goals as goal

pub returns-then-word-ne-VARIABLE : goal.returns-then-word-ne-VARIABLE
unfolding bound_at
returns-then-word-ne-VARIABLE c = grind (arith, common_steps)

pub returns-else-word-ne-VARIABLE : goal.returns-else-word-ne-VARIABLE
unfolding bound_at
returns-else-word-ne-VARIABLE c = grind (arith, common_steps)
