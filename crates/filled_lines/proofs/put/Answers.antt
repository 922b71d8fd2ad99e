-- The loop: so many bytes are copied, and the others are as they were.
use Rattle.std.proofs.Common.{rules}
use Rattle.filled_lines.proofs.Putting.{copied_more, copied_whole}
use Rattle.filled_lines.proofs.put.Goals as goal

pub loop-i-preserved : goal.loop-i-preserved
loop-i-preserved c = search (rules, copied_more)

pub returns : goal.returns
returns c = search (rules, copied_whole)
