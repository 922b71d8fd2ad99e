-- The loop: the fields in the list and what is left of the page are the page; their values take no more bytes than the lines that the walk is past.
use Rattle.std.proofs.Common.{◌≡◌, ◌+◌, ◌-◌, ◌*◌, ◌≤◌, length}
use Rattle.paper.specs.Page.{and_fields, page_of}
use Rattle.text_page.specs.Walk.{page_left}
use Rattle.file_fields.specs.Fields.{between, bytes_to}
use Rattle.file_fields.proofs.list_page.Given as goal

abbrev pub invariant-loop-field : goal.invariant-loop-field
invariant-loop-field l = (8 * l.n ≤ l.c.at)
    × (l.c.at ≤ length l.t)
    × (l.c.line ≤ l.c.at + 1)
    × (length l.list ≡ length l.initial.list)
    × (and_fields (between l.t l.list 0 l.n) (page_left l.t l.c) ≡ page_of l.t)
    × (bytes_to l.list l.n ≤ l.c.at)

abbrev pub decreases-loop-field : goal.decreases-loop-field
decreases-loop-field l = length l.t - l.c.at
