-- The loop: the first match among the entries that are left, counted on from here, is the first of all.
use Rattle.std.proofs.Common.{◌+◌, ◌≡◌}
use Rattle.judge_match.specs.Moments.{moment_of}
use Rattle.judge_entries.specs.Passes.{first_of_all}
use Rattle.judge_entries.proofs.Passes.{match_left}
use Rattle.judge_entries.proofs.first_match.Given as goal

abbrev pub invariant-loop-k : goal.invariant-loop-k
invariant-loop-k g l =
    let moment = moment_of l.case.stack.now l.case.event.ids in
    l.k + match_left l.case.table.now moment l.k ≡ first_of_all l.case.table.now moment
