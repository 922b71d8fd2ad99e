-- The counts decide, else the frames.
use Rattle.std.proofs.Common.{rules}
use Rattle.overlap_cells.proofs.Chains.{fewer, as_many, more}
use Rattle.overlap_cells.proofs.cells.Cells.comes_first.Goals as goal

pub returns-then-x-y : goal.returns-then-x-y
returns-then-x-y c = search (rules, fewer)

pub returns-then-x-y-2 : goal.returns-then-x-y-2
returns-then-x-y-2 c = search (rules, as_many)

pub returns-else-x-y-2 : goal.returns-else-x-y-2
returns-else-x-y-2 c = search (rules, more)
