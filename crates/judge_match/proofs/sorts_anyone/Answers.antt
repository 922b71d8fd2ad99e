-- Key by key, each word being zero or not.
use Rattle.std.proofs.Common.{rules}
use Rattle.judge_match.proofs.Laws.{uid_of_someone, gid_of_someone, namespace_of_anyone}
use Rattle.judge_match.proofs.sorts_anyone.Goals as goal

pub returns-then-word-ne-ANYONE : goal.returns-then-word-ne-ANYONE
returns-then-word-ne-ANYONE c = search (rules, uid_of_someone)

pub returns-then-word-ne-ANYONE-2 : goal.returns-then-word-ne-ANYONE-2
returns-then-word-ne-ANYONE-2 c = search (rules, gid_of_someone)

pub returns : goal.returns
returns c = search (rules, namespace_of_anyone)
