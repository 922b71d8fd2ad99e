-- The sorts of both uids.
use Rattle.std.proofs.Common.{rules}
use Rattle.overlap.proofs.Words.{uid_of_one, uid_of_other, uid_of_neither}
use Rattle.overlap.proofs.formed.Formed.uid_for.Goals as goal

pub returns-then-uid_of-ge-USER : goal.returns-then-uid_of-ge-USER
returns-then-uid_of-ge-USER c = search (rules, uid_of_one, uid_of_other)

pub returns : goal.returns
returns c = search (rules, uid_of_neither)
