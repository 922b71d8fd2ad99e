-- By the test.
use Rattle.std.proofs.Common.{arith}
use Rattle.text_lines.proofs.Laws.{past_passed}
use Rattle.text_lines.proofs.past.Goals as goal

pub returns-then-go_on : goal.returns-then-go_on
returns-then-go_on g c = (past_passed c.args.text.now c.args.at g.row.N (omega arith) c.go_on.result c.go_on.ensures c.if-go_on.true, omega arith)
