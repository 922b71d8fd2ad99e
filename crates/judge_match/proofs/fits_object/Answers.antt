-- An empty allocation stack means a static object.
use Rattle.std.proofs.Common.{rules}
use Rattle.judge_match.proofs.Laws.{static_object, allocated_object}
use Rattle.judge_match.proofs.fits_object.Goals as goal

pub returns-then-is_empty : goal.returns-then-is_empty
returns-then-is_empty c = search (rules, static_object)

pub returns : goal.returns
returns c = search (rules, allocated_object)
