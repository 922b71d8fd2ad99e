-- Numbers that do not fit decide, else the pattern does.
use Rattle.std.proofs.Common.{rules}
use Rattle.judge_match.proofs.Laws.{other_numbers, allocated_pattern_decides}
use Rattle.judge_match.proofs.fits_allocated.Goals as goal

pub returns-then-not-allocated_sorts_fit : goal.returns-then-not-allocated_sorts_fit
returns-then-not-allocated_sorts_fit c = search (rules, other_numbers)

pub returns : goal.returns
returns c = search (rules, allocated_pattern_decides)
