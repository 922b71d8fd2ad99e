-- The loop: the end from i on is the end from `at` on.
use Rattle.std.proofs.Common.{◌≡◌, ◌+◌, ◌-◌, ◌≤◌, length, drop}
use Rattle.laws.specs.Pieces.{before}
use Rattle.paper.specs.Text.{line_feed}
use Rattle.text_lines.proofs.by_sixteen.Given as goal

abbrev pub invariant-loop-i : goal.invariant-loop-i
invariant-loop-i l = (l.i ≤ length l.text) × (l.i + before line_feed (drop l.i l.text) ≡ l.at + before line_feed (drop l.at l.text))

abbrev pub decreases-loop-i : goal.decreases-loop-i
decreases-loop-i l = length l.text - l.i
