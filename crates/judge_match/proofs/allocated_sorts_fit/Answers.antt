-- Key by key: uid and gid that do not fit decide, else the namespace does.
use Rattle.std.proofs.Common.{rules}
use Rattle.judge_match.proofs.Laws.{allocated_uid, allocated_gid, allocated_namespace_decides}
use Rattle.judge_match.proofs.allocated_sorts_fit.Goals as goal

pub returns-then-not-allocated_sort_fits : goal.returns-then-not-allocated_sort_fits
returns-then-not-allocated_sort_fits c = search (rules, allocated_uid)

pub returns-then-not-allocated_sort_fits-2 : goal.returns-then-not-allocated_sort_fits-2
returns-then-not-allocated_sort_fits-2 c = search (rules, allocated_gid)

pub returns : goal.returns
returns c = search (rules, allocated_namespace_decides)
