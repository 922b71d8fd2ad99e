-- Those of `can_read` and of `can_write`.
use Rattle.std.proofs.Common.{rules}
use Rattle.file_limits.proofs.Laws.{both_accesses}
use Rattle.file_limits.proofs.descriptors_in.Goals as goal

pub returns-clause-value : goal.returns-clause-value
returns-clause-value c = search (rules, both_accesses)
