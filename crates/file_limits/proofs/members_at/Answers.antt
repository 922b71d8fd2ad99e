-- Nothing at another place, else the elements of the list.
use Rattle.std.proofs.Common.{rules}
use Rattle.file_limits.proofs.Laws.{no_members, all_members, members_little}
use Rattle.file_limits.proofs.members_at.Goals as goal

pub returns-then-place-clause-value : goal.returns-then-place-clause-value
returns-then-place-clause-value c = search (rules, no_members)

pub returns-clause-value : goal.returns-clause-value
returns-clause-value c = search (rules, all_members)

pub returns-clause-upper_bound : goal.returns-clause-upper_bound
returns-clause-upper_bound c = search (rules, members_little)
