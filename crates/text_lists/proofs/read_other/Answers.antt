-- The element is what stands before the comma.
use Rattle.std.proofs.Common.{rules}
use Rattle.laws.proofs.Pieces.{piece_within}
use Rattle.text_lists.proofs.Scalars.{other_read}
use Rattle.text_lists.proofs.read_other.Goals as goal

pub slice_bounds-is_scalar-end : goal.slice_bounds-is_scalar-end
slice_bounds-is_scalar-end c = search (rules, piece_within)

pub returns : goal.returns
returns c = search (rules, other_read)
