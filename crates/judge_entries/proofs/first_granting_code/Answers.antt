-- The loop: the entries that are left decide as those from the first match on do, whatever the allocation.
use Rattle.std.proofs.Common.{rules}
use Rattle.judge_entries.proofs.Passes.{code_ends, code_not_granted, code_not_matched, code_allowed}
use Rattle.judge_entries.proofs.first_granting_code.Goals as goal
use Rattle.judge_entries.proofs.first_granting_code.Goals.{else-code_granted-via-then-code_granted+else-entry_fits, else-code_granted-via-else-code_granted}

pub returns-then-entry_fits : goal.returns-then-entry_fits
returns-then-entry_fits g c = search (rules, code_allowed)

pub loop-k-preserved : goal.loop-k-preserved
loop-k-preserved g c =
    elim c.else-code_granted.branch [
      | else-code_granted-via-then-code_granted+else-entry_fits w ↦ search (rules, code_not_matched)
      | else-code_granted-via-else-code_granted w ↦ search (rules, code_not_granted)
    ]

pub returns : goal.returns
returns g c = search (rules, code_ends)
