-- Within the text the byte that stands there, behind it a comma.
use Rattle.std.proofs.Common.{rules}
use Rattle.text_order.proofs.Laws.{read_behind, read_within}
use Rattle.text_order.proofs.byte_at.Goals as goal

pub returns-then-s-place : goal.returns-then-s-place
returns-then-s-place c = search (rules, read_behind)

pub returns : goal.returns
returns c = search (rules, read_within)
