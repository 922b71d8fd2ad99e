-- The expression is the definition's.
use Rattle.std.proofs.Common.{rules}
use Rattle.text_lines.proofs.Laws.{stands_is}
use Rattle.text_lines.proofs.may_stand.Goals as goal

pub returns : goal.returns
returns c = search (rules, stands_is)
