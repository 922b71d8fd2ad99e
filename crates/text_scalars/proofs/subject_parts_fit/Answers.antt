-- The parts are found one `|` after another.
use Rattle.std.proofs.Common.{rules}
use Rattle.text_scalars.proofs.Laws.{no_bar, subject_parts}
use Rattle.text_scalars.proofs.subject_parts_fit.Goals as goal

pub returns-then-s-left_end : goal.returns-then-s-left_end
returns-then-s-left_end c = search (rules, no_bar)

pub returns : goal.returns
returns c = search (rules, subject_parts)
