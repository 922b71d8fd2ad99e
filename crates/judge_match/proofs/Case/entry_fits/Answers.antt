-- Sorts that do not fit decide, else the pattern does.
use Rattle.std.proofs.Common.{rules}
use Rattle.judge_match.proofs.Laws.{other_sorts, pattern_decides}
use Rattle.judge_match.proofs.Case.entry_fits.Goals as goal

pub returns-then-not-sorts_fit : goal.returns-then-not-sorts_fit
returns-then-not-sorts_fit g c = search (rules, other_sorts)

pub returns : goal.returns
returns g c = search (rules, pattern_decides)
