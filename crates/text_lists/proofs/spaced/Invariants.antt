-- The loop without exit: the bytes before it and those from it on, behind the byte before it, are spaced exactly when all of s is.
use Rattle.std.proofs.Common.{◌≡◌, ◌&&◌, ◌-◌, get_or, drop}
use Rattle.paper.specs.Lists.{spaced}
use Rattle.text_lists.proofs.spaced.Given as goal

abbrev pub invariant-loop-i : goal.invariant-loop-i
invariant-loop-i l = (l.right && spaced (get_or l.s (l.i - 1) 0) (drop l.i l.s)) ≡ spaced 0 l.s
