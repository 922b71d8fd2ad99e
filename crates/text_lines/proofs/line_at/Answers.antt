-- The end that was found splits off a line, ended or not.
use Rattle.std.proofs.Common.{rules}
use Rattle.text_lines.proofs.Laws.{splits_ended, splits_open}
use Rattle.text_lines.proofs.line_at.Goals as goal

pub returns-then-feed-text : goal.returns-then-feed-text
returns-then-feed-text c = search (rules, splits_ended)

pub returns : goal.returns
returns c = search (rules, splits_open)
