-- The loop: what the walk answers for the lines that are left is what it answers at the cursor, and what is left of the page is what was.
use Rattle.std.proofs.Common.{◌≡◌, ◌+◌, ◌-◌, ◌≤◌, length, drop}
use Rattle.paper.specs.Text.{lines_from}
use Rattle.paper.specs.Page.{page_from}
use Rattle.text_page.specs.Steps.{state_of}
use Rattle.text_page.specs.Walk.{next_in}
use Rattle.text_page.proofs.next_field.Given as goal

abbrev pub invariant-loop-at : goal.invariant-loop-at
invariant-loop-at l = (l.line ≤ l.at + 1)
    × (l.initial.at ≤ l.at)
    × (next_in (length l.t) (state_of l.st) l.line (lines_from l.at (drop l.at l.t)) ≡ next_in (length l.t) (state_of l.st) l.initial.line (lines_from l.initial.at (drop l.initial.at l.t)))
    × (page_from (state_of l.st) l.line (lines_from l.at (drop l.at l.t)) ≡ page_from (state_of l.st) l.initial.line (lines_from l.initial.at (drop l.initial.at l.t)))

abbrev pub decreases-loop-at : goal.decreases-loop-at
decreases-loop-at l = length l.t - l.at
