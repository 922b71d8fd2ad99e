-- The only one that there is, else by which comes first.
use Rattle.std.proofs.Common.{rules}
use Rattle.overlap_cells.proofs.Chains.{better_second, better_first, better_comes_first, better_comes_after}
use Rattle.overlap_cells.proofs.cells.Cells.better_of.Goals as goal

pub returns-then-x-eq0-clause-result_value : goal.returns-then-x-eq0-clause-result_value
returns-then-x-eq0-clause-result_value c = search (rules, better_second)

pub returns-then-y-eq0-clause-result_value : goal.returns-then-y-eq0-clause-result_value
returns-then-y-eq0-clause-result_value c = search (rules, better_first, better_comes_first)

pub returns-clause-result_value : goal.returns-clause-result_value
returns-clause-result_value c = search (rules, better_comes_after)
