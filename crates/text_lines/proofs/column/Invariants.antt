-- The loop: what is left of the spaces is counted with those passed.
use Rattle.std.proofs.Common.{◌≡◌, length, drop, ◌≤◌, ◌+◌}
use Rattle.paper.specs.Text.{column}
use Rattle.text_lines.proofs.column.Given as goal

abbrev pub invariant-loop-i : goal.invariant-loop-i
invariant-loop-i l = (l.i ≤ length l.l) × (l.i + column (drop l.i l.l) ≡ column l.l)
