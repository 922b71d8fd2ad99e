-- The subject is asked first, then the descriptors.
use Rattle.std.proofs.Common.{rules}
use Rattle.judge_whole.proofs.Laws.{subject_grants_not, descriptors_tell}
use Rattle.judge_whole.proofs.may_grant.Goals as goal

pub returns-then-not-has_subject : goal.returns-then-not-has_subject
returns-then-not-has_subject g c = search (rules, subject_grants_not)

pub returns : goal.returns
returns g c = search (rules, descriptors_tell)
