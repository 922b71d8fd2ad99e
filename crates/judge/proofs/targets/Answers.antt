-- Code is listed among the functions, data among the objects.
use Rattle.std.proofs.Common.{rules}
use Rattle.judge.proofs.Laws.{code_targets, data_targets}
use Rattle.judge.proofs.targets.Goals as goal

pub returns-then-is_code : goal.returns-then-is_code
returns-then-is_code c = search (rules, code_targets)

pub returns : goal.returns
returns c = search (rules, data_targets)
