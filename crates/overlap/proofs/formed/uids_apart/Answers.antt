-- By the first sort.
use Rattle.std.proofs.Common.{rules}
use Rattle.overlap.proofs.Words.{apart_root, apart_user, apart_neither}
use Rattle.overlap.proofs.formed.uids_apart.Goals as goal

pub returns-then-a-eq-ROOT : goal.returns-then-a-eq-ROOT
returns-then-a-eq-ROOT c = search (rules, apart_root)

pub returns-then-a-ge-USER : goal.returns-then-a-ge-USER
returns-then-a-ge-USER c = search (rules, apart_user)

pub returns-else-a-ge-USER : goal.returns-else-a-ge-USER
returns-else-a-ge-USER c = search (rules, apart_neither)
