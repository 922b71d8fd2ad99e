-- The rank says which of the places it is.
use Rattle.std.proofs.Common.{rules}
use Rattle.text_order.proofs.Laws.{ranked_told}
use mathlib.Core.Bool.{false≢true}
use Rattle.text_order.proofs.is_ranked.Goals as goal

pub returns-then-last-rank : goal.returns-then-last-rank
returns-then-last-rank c = λ t. absurd (false≢true t)

pub returns : goal.returns
returns c = search (rules, ranked_told)
