-- Key by key: uid and gid that do not fit decide, else the namespace does.
use Rattle.std.proofs.Common.{rules}
use Rattle.judge_match.proofs.Laws.{other_uid, other_gid, namespace_decides}
use Rattle.judge_match.proofs.sorts_fit.Goals as goal

pub returns-then-not-sort_fits : goal.returns-then-not-sort_fits
returns-then-not-sort_fits g c = search (rules, other_uid)

pub returns-then-not-sort_fits-2 : goal.returns-then-not-sort_fits-2
returns-then-not-sort_fits-2 g c = search (rules, other_gid)

pub returns : goal.returns
returns g c = search (rules, namespace_decides)
