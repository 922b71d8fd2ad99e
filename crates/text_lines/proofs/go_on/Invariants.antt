-- The loop without exit: the bytes before it and those from it on go on exactly when all do.
use Rattle.std.proofs.Common.{◌≡◌, ◌&&◌, drop}
use Rattle.paper.specs.Common.{all_of}
use Rattle.text_lines.specs.Splits.{goes_on}
use Rattle.text_lines.proofs.go_on.Given as goal

abbrev pub invariant-loop-b : goal.invariant-loop-b
invariant-loop-b g l = (l.right && all_of goes_on (drop l.b-index l.b-items)) ≡ all_of goes_on l.b-items
