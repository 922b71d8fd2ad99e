-- Sorts that are not all `all` decide, else the pattern does.
use Rattle.std.proofs.Common.{rules}
use Rattle.judge_match.proofs.Laws.{not_anyone, static_pattern_decides}
use Rattle.judge_match.proofs.fits_static.Goals as goal

pub returns-then-not-sorts_anyone : goal.returns-then-not-sorts_anyone
returns-then-not-sorts_anyone c = search (rules, not_anyone)

pub returns : goal.returns
returns c = search (rules, static_pattern_decides)
