-- The loop: what is left of the descriptors answers as all of them do.
use Rattle.std.proofs.Common.{◌≡◌}
use Rattle.judge_match.specs.Moments.{binding, allocation_of}
use Rattle.paper.specs.Match.{descriptor_grants}
use Rattle.paper.specs.Table.{descriptor_in, policy_in}
use Rattle.judge_match.proofs.Laws.{some_from, some_of}
use Rattle.judge_match.proofs.some_grants.Given as goal

abbrev pub invariant-loop-i : goal.invariant-loop-i
invariant-loop-i l = let ws = l.t in
    let event = l.event in
    let test = descriptor_grants (policy_in ws) event.target (binding event) (allocation_of l.allocation event) in
    some_from test (descriptor_in ws) l.first l.n l.i ≡ some_of test (descriptor_in ws) l.first l.n
