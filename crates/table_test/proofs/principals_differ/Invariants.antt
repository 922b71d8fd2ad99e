-- The loop: every principal so far is new, and its sum is kept.
use Rattle.std.proofs.Common.{◌≡◌, true, take}
use Rattle.paper.specs.Common.{up_to}
use Rattle.table_blocks.specs.Parts.{principal_is_new}
use Rattle.table_test.specs.Sums.{Summed}
use Rattle.table_test.proofs.principals_differ.Given as goal

abbrev pub invariant-loop-k : goal.invariant-loop-k
invariant-loop-k l = record { summed : Summed l.t (take l.k l.sums); new : up_to (principal_is_new l.t) l.k ≡ true }
