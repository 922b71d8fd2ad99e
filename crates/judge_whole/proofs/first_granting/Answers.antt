-- By the access.
use Rattle.std.proofs.Common.{rules}
use Rattle.judge_entries.proofs.Passes.{for_this_allocation}
use Rattle.judge_whole.proofs.first_granting.Goals as goal

pub returns-then-is_code : goal.returns-then-is_code
returns-then-is_code g c = search (rules, for_this_allocation)
