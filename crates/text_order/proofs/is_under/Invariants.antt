-- What is left of two names that were the same so far decides.
use Rattle.std.proofs.Common.{◌-◌, length}
use Rattle.text_order.specs.Order.{Under}
use Rattle.text_order.proofs.is_under.Given as goal

abbrev pub invariant-loop-a : goal.invariant-loop-a
invariant-loop-a l = Under l.s l.i l.j → Under l.s l.a l.b

abbrev pub decreases-loop-a : goal.decreases-loop-a
decreases-loop-a l = length l.s - l.i
