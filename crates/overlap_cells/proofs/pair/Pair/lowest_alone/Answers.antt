-- The frame that is told, or none.
use Rattle.overlap_cells.proofs.Chains.{lone_frame, no_lone_frame}
use Rattle.overlap_cells.proofs.pair.Pair.lowest_alone.Goals as goal

pub returns-in_default-clause-by_cells : goal.returns-in_default-clause-by_cells
returns-in_default-clause-by_cells c = λ K. no_lone_frame K _ _ _ c.in_default.ensures

pub returns-clause-by_cells : goal.returns-clause-by_cells
returns-clause-by_cells c = λ K. lone_frame K _ _ c.alone.result c.in-Some.ensures c.alone.ensures.frames c.alone.ensures.base
