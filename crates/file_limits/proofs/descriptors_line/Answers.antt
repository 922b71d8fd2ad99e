-- The loop: what is left of the entries passes the limit where all of them do.
use Rattle.std.proofs.Common.{rules}
use Rattle.file_limits.proofs.Laws.{entries_start, descriptors_pass, descriptors_on, descriptors_fit_lem, no_entries}
use Rattle.file_limits.proofs.descriptors_line.Goals as goal

pub loop-entry-init : goal.loop-entry-init
loop-entry-init c = search (rules, entries_start)

pub overflow_add-sum : goal.overflow_add-sum
overflow_add-sum c = search (rules, descriptors_fit_lem)

pub returns-then-sum-gt-DESCRIPTORS : goal.returns-then-sum-gt-DESCRIPTORS
returns-then-sum-gt-DESCRIPTORS c =
    descriptors_pass _ _ _ c.loop-entry.invariant.3 _ _ c.in-Some.ensures.steps _ c.descriptors_in-sum.ensures.value _ c.if-sum-gt-DESCRIPTORS.true c.line.ensures

pub loop-entry-preserved : goal.loop-entry-preserved
loop-entry-preserved c = search (rules, descriptors_on)

pub returns : goal.returns
returns c = search (rules, no_entries)
