-- The loop: what is left of the descriptors answers as all of them do.
use Rattle.std.proofs.Common.{rules}
use Rattle.paper.specs.Match.{some_descriptor_grants}
use Rattle.judge_match.proofs.Laws.{some_start, some_found, some_later, some_none}
use Rattle.judge_match.proofs.some_grants.Goals as goal

pub loop-i-init : goal.loop-i-init
loop-i-init c = search (rules, some_start)

pub returns-then-descriptor_grants : goal.returns-then-descriptor_grants
unfolding some_descriptor_grants
returns-then-descriptor_grants c = search (rules, some_found)

pub loop-i-preserved : goal.loop-i-preserved
loop-i-preserved c = search (rules, some_later)

pub returns : goal.returns
unfolding some_descriptor_grants
returns c = search (rules, some_none)
