-- The names ascend so far.
use Rattle.std.proofs.Common.{◌+◌, ◌-◌, ◌≤◌}
use Rattle.text_order.specs.Order.{Ascends}
use Rattle.text_order.proofs.ascending.Given as goal

abbrev pub invariant-loop-last : goal.invariant-loop-last
invariant-loop-last l = (l.last ≤ l.n) × Ascends l.s l.places (l.last + 1)

abbrev pub decreases-loop-last : goal.decreases-loop-last
decreases-loop-last l = l.n - l.last
