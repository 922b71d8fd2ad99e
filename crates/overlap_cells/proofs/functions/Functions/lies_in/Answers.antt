-- By what is read, if anything.
use Rattle.std.proofs.Common.{refl}
use Rattle.overlap_cells.proofs.Beginnings.{listed_there}
use Rattle.overlap_cells.proofs.functions.Functions.lies_in.Goals as goal

pub returns : goal.returns
returns c = listed_there _ _ _ _ _ _ c.eq.ensures refl c.get.ensures.lookup.3
