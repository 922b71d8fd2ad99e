-- The end is here, or is looked for from near it.
use Rattle.std.proofs.Common.{rules}
use Rattle.text_lines.proofs.Laws.{ends_here}
use Rattle.text_lines.proofs.line_end.Goals as goal

pub returns-then-text-at-eq-LINE_FEED : goal.returns-then-text-at-eq-LINE_FEED
returns-then-text-at-eq-LINE_FEED c = search (rules, ends_here)
