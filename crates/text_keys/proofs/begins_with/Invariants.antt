-- The loop: the bytes before the place are alike.
use Rattle.std.proofs.Common.{◌≤◌, ◌-◌, length}
use Rattle.text_keys.specs.Asked.{Alike}
use Rattle.text_keys.proofs.begins_with.Given as goal

abbrev pub invariant-loop-i : goal.invariant-loop-i
invariant-loop-i l = (l.i ≤ length l.key) × Alike l.key l.l 0 l.i

abbrev pub decreases-loop-i : goal.decreases-loop-i
decreases-loop-i l = length l.key - l.i
