-- The loop: the line of the first bad byte of what is left is that of all.
use Rattle.std.proofs.Common.{◌≡◌, ◌+◌, ◌≤◌, drop}
use Rattle.paper.specs.Text.{bad_byte_line}
use Rattle.text_lines.proofs.bad_byte_line.Given as goal

abbrev pub invariant-loop-i : goal.invariant-loop-i
invariant-loop-i l = (1 ≤ l.line) × (l.line ≤ l.i + 1) × (bad_byte_line l.line (drop l.i l.text) ≡ bad_byte_line 1 l.text)
