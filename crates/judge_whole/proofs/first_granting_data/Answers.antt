-- The loop: the entries that are left decide as those from the first match on do.
use Rattle.std.proofs.Common.{rules, false, refl}
use Rattle.judge_entries.proofs.Passes.{data_ends, data_not_granted, data_not_matched, data_allowed}
use Rattle.judge_whole.proofs.Laws.{next_begin}
use Rattle.judge_whole.proofs.first_granting_data.Goals as goal
use Rattle.judge_whole.proofs.first_granting_data.Goals.{else-may_grant-via-then-may_grant+then-data_granted+else-entry_fits}
use Rattle.judge_whole.proofs.first_granting_data.Goals.{else-may_grant-via-then-may_grant+else-data_granted, else-may_grant-via-else-may_grant}

pub returns-then-entry_fits : goal.returns-then-entry_fits
returns-then-entry_fits g c = search (rules, data_allowed)

pub loop-k-preserved : goal.loop-k-preserved
loop-k-preserved g c =
    let counted = c.count-entries.ensures.0 in
    let same = c.loop-k.invariant.2 in
    let placed = c.args.case.now.placed in
    let begins = next_begin _ _ _ _ c.of_entry-descriptors.ensures c.end-first.ensures in (
      begins.0,
      begins.1,
      elim c.else-may_grant.branch [
        | else-may_grant-via-then-may_grant+then-data_granted+else-entry_fits w ↦ search (rules, data_not_matched)
        | else-may_grant-via-then-may_grant+else-data_granted w ↦ search (rules, data_not_granted)
        | else-may_grant-via-else-may_grant w ↦
            data_not_granted _ _ _ _ _ _ _ counted same (search rules) placed false (c.may_grant.ensures.refuses _ (search rules)) refl
      ],
    )

pub returns : goal.returns
returns g c = search (rules, data_ends)
