-- The loop: the end from i on is the end from `at` on.
use Rattle.std.proofs.Common.{rules}
use Rattle.text_lines.proofs.Laws.{sixteen_again}
use Rattle.text_lines.proofs.by_sixteen.Goals as goal

pub loop-i-preserved : goal.loop-i-preserved
loop-i-preserved c = search (rules, sixteen_again)
