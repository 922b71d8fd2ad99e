-- The definition.
use Rattle.std.proofs.Common.{rules}
use Rattle.file_limits.proofs.Laws.{all_lines}
use Rattle.file_limits.proofs.over_limit.Goals as goal

pub returns : goal.returns
returns c = search (rules, all_lines)
