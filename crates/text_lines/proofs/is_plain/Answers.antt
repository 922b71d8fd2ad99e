-- The expression is the definition's.
use Rattle.std.proofs.Common.{rules}
use Rattle.text_lines.proofs.Laws.{plain_is}
use Rattle.text_lines.proofs.is_plain.Goals as goal

pub returns : goal.returns
returns c = search (rules, plain_is)
