-- No stack where the ends differ.
use Rattle.std.proofs.Common.{refl}
use Rattle.overlap_meeting.proofs.Ends.{none_written}
use Rattle.overlap_meeting.proofs.write_best_stack.Goals as goal

pub returns-then-ends_differ : goal.returns-then-ends_differ
returns-then-ends_differ c = none_written _ _ _ _ _ _ (c.if-ends_differ.ensures refl) c.clear_witness.ensures
