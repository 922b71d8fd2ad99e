-- The loop: the descriptors of every entry so far have their variables bound.
use Rattle.std.proofs.Common.{rules}
use Rattle.laws.proofs.Tests.{up_to_none}
use Rattle.table.proofs.Laws.{sum_none, sum_again}
use Rattle.table_test.proofs.Laws.{entry_unbound, entry_bound_lem}
use Rattle.table_test.proofs.variables_bound.Goals as goal

pub loop-k-init : goal.loop-k-init
loop-k-init c = search (rules, up_to_none, sum_none)

pub returns-then-not-descriptors_bound : goal.returns-then-not-descriptors_bound
returns-then-not-descriptors_bound c = search (rules, entry_unbound)

pub loop-k-preserved : goal.loop-k-preserved
loop-k-preserved c = (search (rules, sum_again), search rules, search (rules, entry_bound_lem))
