-- After the last other element, or from the start.
use Rattle.std.proofs.Common.{rules}
use Rattle.overlap_cells.proofs.OnlyAll.{all_from_next, all_from_start}
use Rattle.overlap_cells.proofs.pair.only_all_from.Goals as goal

pub returns-in-Some : goal.returns-in-Some
returns-in-Some c = search (rules, all_from_next)

pub returns-in-None : goal.returns-in-None
returns-in-None c = search (rules, all_from_start)
