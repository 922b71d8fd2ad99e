-- The zeros, then what stood there.
use Rattle.std.proofs.Common.{rules}
use Rattle.overlap_meeting.proofs.Writing.{witness_cleared}
use Rattle.overlap_meeting.proofs.clear_witness.Goals as goal

pub returns : goal.returns
returns c = witness_cleared _ _ c.requires (c.fill.ensures.after (λ y h. search rules))
