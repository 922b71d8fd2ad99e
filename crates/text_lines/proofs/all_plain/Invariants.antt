-- The last line ends with CR, or the loop without exit: the bytes before it and those from it on are plain exactly when all are.
use Rattle.std.proofs.Common.{◌≡◌, ◌&&◌, drop}
use Rattle.paper.specs.Common.{all_of}
use Rattle.text_lines.specs.Plain.{is_plain}
use Rattle.text_lines.proofs.all_plain.Given as goal

abbrev pub invariant-loop-b : goal.invariant-loop-b
invariant-loop-b l = (l.right && all_of is_plain (drop l.b-index l.text)) ≡ all_of is_plain l.text
