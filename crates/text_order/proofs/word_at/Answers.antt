-- Within the list the word that stands there, behind it 0.
use Rattle.std.proofs.Common.{rules}
use Rattle.text_order.proofs.Laws.{read_behind}
use Rattle.text_order.proofs.word_at.Goals as goal

pub returns-then-words-i : goal.returns-then-words-i
returns-then-words-i c = search (rules, read_behind)
