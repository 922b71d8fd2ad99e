-- By the byte before LF, where one stands on the line.
use Rattle.std.proofs.Common.{rules}
use Rattle.text_lines.proofs.Laws.{end_empty, end_return, end_plain}
use Rattle.text_lines.proofs.bytes_end.Goals as goal

pub returns-then-feed-at : goal.returns-then-feed-at
returns-then-feed-at c = search (rules, end_empty)

pub returns-then-text-feed-eq-CARRIAGE_RETURN : goal.returns-then-text-feed-eq-CARRIAGE_RETURN
returns-then-text-feed-eq-CARRIAGE_RETURN c = search (rules, end_return)

pub returns : goal.returns
returns c = search (rules, end_plain)
