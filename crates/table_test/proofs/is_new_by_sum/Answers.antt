-- A new sum is that of a new principal.
use Rattle.std.proofs.Common.{rules}
use Rattle.table_test.proofs.Sums.{new_by_sum}
use Rattle.table_test.proofs.is_new_by_sum.Goals as goal

pub returns-then-is_new_sum : goal.returns-then-is_new_sum
returns-then-is_new_sum c = search (rules, new_by_sum)
