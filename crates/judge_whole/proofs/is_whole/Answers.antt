-- Past the bits or unlisted it is not; else by how many words there are.
use Rattle.std.proofs.Common.{rules}
use Rattle.judge_whole.proofs.Laws.{not_whole, is_whole}
use Rattle.judge_whole.proofs.is_whole.Goals as goal

pub returns-then-target-ge-DOMAINS : goal.returns-then-target-ge-DOMAINS
returns-then-target-ge-DOMAINS c = search (rules, not_whole)

pub returns-then-domains-target : goal.returns-then-domains-target
returns-then-domains-target c = search (rules, not_whole)

pub returns : goal.returns
returns c = search (rules, is_whole)
