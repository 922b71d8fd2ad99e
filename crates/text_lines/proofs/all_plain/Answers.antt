-- The last line ends with CR, or the loop without exit: the bytes before it and those from it on are plain exactly when all are.
use Rattle.std.proofs.Common.{rules}
use Rattle.text_lines.proofs.Laws.{plain_not, right_again, right_done}
use Rattle.text_lines.proofs.all_plain.Goals as goal

pub returns-in-13 : goal.returns-in-13
returns-in-13 c = search (rules, plain_not)

pub loop-b-preserved : goal.loop-b-preserved
loop-b-preserved c = search (rules, right_again)

pub returns : goal.returns
returns c = search (rules, right_done)
