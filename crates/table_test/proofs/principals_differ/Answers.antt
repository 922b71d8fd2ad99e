-- The loop: every principal so far is new, and its sum is kept.
use Rattle.std.proofs.Common.{rules}
use Rattle.laws.proofs.Tests.{up_to_none}
use Rattle.table_test.proofs.Sums.{none_summed, summed_more, twin_found, none_yet}
use Rattle.table_test.proofs.principals_differ.Goals as goal

pub loop-k-init : goal.loop-k-init
loop-k-init c = record { summed = none_summed c.args.t.now; new = up_to_none _ }

pub returns-then-not-is_new_by_sum : goal.returns-then-not-is_new_by_sum
returns-then-not-is_new_by_sum c = search (rules, twin_found)

pub loop-k-preserved : goal.loop-k-preserved
loop-k-preserved c = record { summed = search (rules, summed_more); new = search (rules, none_yet) }
