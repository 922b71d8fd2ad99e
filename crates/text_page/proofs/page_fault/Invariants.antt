-- The loop: what is left of the page is refused as all of it is.
use Rattle.std.proofs.Common.{◌≡◌, ◌+◌, ◌-◌, ◌≤◌, length}
use Rattle.paper.specs.Page.{page_of}
use Rattle.text_page.specs.Walk.{page_left, refusal_of}
use Rattle.text_page.proofs.page_fault.Given as goal

abbrev pub invariant-loop-field : goal.invariant-loop-field
invariant-loop-field l = (l.c.at ≤ length l.t) × (l.c.line ≤ l.c.at + 1) × (refusal_of (page_left l.t l.c) ≡ refusal_of (page_of l.t))

abbrev pub decreases-loop-field : goal.decreases-loop-field
decreases-loop-field l = length l.t - l.c.at
