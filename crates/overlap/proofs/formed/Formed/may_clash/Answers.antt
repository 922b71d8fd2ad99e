-- The subjects differ, or the uids decide.
use Rattle.std.proofs.Common.{rules}
use Rattle.overlap.proofs.Words.{subjects_differ, may_clash_lem}
use Rattle.overlap.proofs.formed.Formed.may_clash.Goals as goal

pub returns-then-subject_of : goal.returns-then-subject_of
returns-then-subject_of c = search (rules, may_clash_lem)

pub returns-else-subject_of : goal.returns-else-subject_of
returns-else-subject_of c = search (rules, subjects_differ)
