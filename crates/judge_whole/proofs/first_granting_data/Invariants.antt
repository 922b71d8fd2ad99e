-- The loop: the entries that are left decide as those from the first match on do.
use Rattle.std.proofs.Common.{◌≡◌, ◌≤◌, ◌*◌}
use Rattle.table.specs.Reach.{word_values}
use Rattle.paper.specs.Table.{first_descriptor}
use Rattle.judge_match.specs.Moments.{allocation_of}
use Rattle.judge_entries.proofs.Passes.{left}
use Rattle.judge_whole.proofs.first_granting_data.Given as goal

abbrev pub invariant-loop-k : goal.invariant-loop-k
invariant-loop-k g l =
    let ws = l.case.table.now in
    let event = l.case.event in
    let allocation = allocation_of l.case.allocation.now event in
    (l.first ≡ first_descriptor ws l.k)
    × (l.first ≤ 2 * word_values * l.k)
    × (left ws l.case.stack.now event allocation l.k ≡ left ws l.case.stack.now event allocation l.from)
