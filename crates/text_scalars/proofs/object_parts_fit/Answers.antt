-- The parts are found one `|` after another.
use Rattle.std.proofs.Common.{rules}
use Rattle.text_scalars.proofs.Laws.{no_bar, one_bar, two_bars, four_bars, object_parts}
use Rattle.text_scalars.proofs.object_parts_fit.Goals as goal

pub returns-then-s-sort_end : goal.returns-then-s-sort_end
returns-then-s-sort_end c = search (rules, no_bar)

pub returns-then-s-path_end : goal.returns-then-s-path_end
returns-then-s-path_end c = search (rules, one_bar)

pub returns-then-s-line_end : goal.returns-then-s-line_end
returns-then-s-line_end c = search (rules, two_bars)

pub returns-then-name_end-s : goal.returns-then-name_end-s
returns-then-name_end-s c = search (rules, four_bars)

pub returns : goal.returns
returns c = search (rules, object_parts)
