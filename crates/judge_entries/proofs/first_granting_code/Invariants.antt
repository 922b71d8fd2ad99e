-- The loop: the entries that are left decide as those from the first match on do, whatever the allocation.
use Rattle.judge_entries.proofs.Passes.{CodeLeft}
use Rattle.judge_entries.proofs.first_granting_code.Given as goal

abbrev pub invariant-loop-k : goal.invariant-loop-k
invariant-loop-k g l = CodeLeft l.case.table.now l.case.stack.now l.case.event l.from l.k
