-- What is read behind what is in came behind it.
use Rattle.std.proofs.Common.{rules}
use Rattle.input.proofs.Reading.{came_too}
use Rattle.input.proofs.read_all.Goals as goal

pub loop-done-preserved : goal.loop-done-preserved
loop-done-preserved g c = (search rules, came_too _ _ _ _ _ _ _ _ (search rules) (search rules) c.loop-done.invariant.1 c.in_ok-more.ensures.bytes.0)
