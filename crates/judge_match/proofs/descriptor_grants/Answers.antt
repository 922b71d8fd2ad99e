-- The grant that fails decides, then the context.
use Rattle.std.proofs.Common.{rules}
use Rattle.judge_match.proofs.Laws.{target_not_granted, context_decides}
use Rattle.judge_match.proofs.descriptor_grants.Goals as goal

pub returns-then-not-grant_holds : goal.returns-then-not-grant_holds
returns-then-not-grant_holds c = search (rules, target_not_granted)

pub returns : goal.returns
returns c = search (rules, context_decides)
