-- The loop: the descriptors of every entry so far have their variables bound.
use Rattle.std.proofs.Common.{◌≡◌, true, ◌≤◌, ◌*◌}
use Rattle.paper.specs.Table.{first_descriptor}
use Rattle.table_blocks.specs.Parts.{entry_bound}
use Rattle.paper.specs.Common.{up_to}
use Rattle.table.specs.Reach.{word_values}
use Rattle.table_test.proofs.variables_bound.Given as goal

abbrev pub invariant-loop-k : goal.invariant-loop-k
invariant-loop-k l = (l.first ≡ first_descriptor l.t l.k) × (l.first ≤ 2 * word_values * l.k) × (up_to (entry_bound l.t) l.k ≡ true)
