-- By the need.
use Rattle.std.proofs.Common.{rules}
use Rattle.text_scalars.proofs.Laws.{meets_known}
use Rattle.paper.specs.Scalars.{meets}
use Rattle.text_scalars.proofs.meets.Goals as goal

pub returns-in-Needed : goal.returns-in-Needed
unfolding meets
returns-in-Needed c = search (rules, meets_known)

pub returns-in-Absent : goal.returns-in-Absent
unfolding meets
returns-in-Absent c = search (rules, meets_known)

pub returns-in-Free : goal.returns-in-Free
unfolding meets
returns-in-Free c = search (rules, meets_known)
