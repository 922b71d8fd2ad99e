-- By what may stand alone and whether the cell has a stack.
use Rattle.std.proofs.Common.{rules}
use Rattle.overlap_cells.proofs.Chains.{front_alone, front_none, front_more}
use Rattle.overlap_cells.proofs.cells.Cells.in_front.Goals as goal

pub returns-then-alone-clause-result_value : goal.returns-then-alone-clause-result_value
returns-then-alone-clause-result_value c = search (rules, front_alone)

pub returns-then-frames-eq0-clause-result_value : goal.returns-then-frames-eq0-clause-result_value
returns-then-frames-eq0-clause-result_value c = search (rules, front_none)

pub returns-clause-result_value : goal.returns-clause-result_value
returns-clause-result_value c = search (rules, front_more)
