-- Neither element is `all`, and the two have no frame in common.
use Rattle.overlap_meeting.proofs.Ends.{nothing_in_common}
use Rattle.overlap_meeting.proofs.differ.Goals as goal

pub returns-in_default : goal.returns-in_default
returns-in_default c = nothing_in_common _ _ _ _ _ c.in_default.not-All-0 c.in_default.not-All-1 c.common_frame.ensures c.is_none.ensures
