-- By the byte.
use Rattle.std.proofs.Common.{rules}
use Rattle.text_lines.proofs.Laws.{behind_line, behind_else}
use Rattle.text_lines.proofs.line_behind.Goals as goal

pub returns-then-b-eq-LINE_FEED : goal.returns-then-b-eq-LINE_FEED
returns-then-b-eq-LINE_FEED c = search (rules, behind_line)

pub returns : goal.returns
returns c = search (rules, behind_else)
