-- The loop: what is left of the spaces is counted with those passed.
use Rattle.std.proofs.Common.{rules}
use Rattle.text_lines.proofs.Laws.{column_again, column_stops, column_ends}
use Rattle.text_lines.proofs.column.Goals as goal

pub returns-then-b-ne-SPACE : goal.returns-then-b-ne-SPACE
returns-then-b-ne-SPACE c = search (rules, column_stops)

pub loop-i-preserved : goal.loop-i-preserved
loop-i-preserved c = search (rules, column_again)

pub returns : goal.returns
returns c = search (rules, column_ends)
