-- A name ends where its bytes do, or is none.
use Rattle.std.proofs.Common.{rules}
use Rattle.text_lists.proofs.Scalars.{part_within, name_no_end, name_read}
use Rattle.text_lists.proofs.read_name.Goals as goal

pub returns-then-not-element_ends : goal.returns-then-not-element_ends
returns-then-not-element_ends c = search (rules, name_no_end)

pub slice_bounds-name-end : goal.slice_bounds-name-end
slice_bounds-name-end c = search (rules, part_within)

pub returns : goal.returns
returns c = search (rules, name_read)
