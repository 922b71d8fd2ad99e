-- The loop: the first match among the entries that are left, counted on from here, is the first of all.
use Rattle.std.proofs.Common.{rules}
use Rattle.judge_entries.proofs.Passes.{matches_start, matches_here, matches_later_lem, matches_nowhere, filtered}
use Rattle.judge_entries.proofs.first_match.Goals as goal
use Rattle.judge_entries.proofs.first_match.Goals.{else-may_match-via-then-may_match+else-entry_fits, else-may_match-via-else-may_match}

pub loop-k-init : goal.loop-k-init
loop-k-init g c = search (rules, matches_start)

pub returns-then-entry_fits : goal.returns-then-entry_fits
returns-then-entry_fits g c = search (rules, matches_here)

pub loop-k-preserved : goal.loop-k-preserved
loop-k-preserved g c =
    let counted = c.count-entries.ensures.0 in
    let placed = c.args.case.now.placed in
    let value = c.args.case.now.functions_value in
    elim c.else-may_match.branch [
      | else-may_match-via-then-may_match+else-entry_fits w ↦ search (rules, matches_later_lem)
      | else-may_match-via-else-may_match w ↦
          filtered _ _ _ _ _ _ _ _ _ counted c.loop-k.invariant (search rules) placed value c.of_frame-base.ensures c.of_frame-top.ensures c.may_match.ensures.may (search rules)
    ]

pub returns : goal.returns
returns g c = search (rules, matches_nowhere)
