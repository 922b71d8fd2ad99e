-- New by its hash, or the loop: a twin among the entries that are left is a twin among all.
use Rattle.std.proofs.Common.{rules}
use Rattle.file_entries.proofs.Twins.{no_twin, twin_here, twin_not, twin_nowhere}
use Rattle.file_entries.proofs.Passed.has_twin.Goals as goal

pub returns-then-is_new_hash : goal.returns-then-is_new_hash
returns-then-is_new_hash c = search (rules, no_twin)

pub returns-then-are_twins : goal.returns-then-are_twins
returns-then-are_twins c = search (rules, twin_here)

pub loop-j-preserved : goal.loop-j-preserved
loop-j-preserved c = search (rules, twin_not)

pub returns : goal.returns
returns c = search (rules, twin_nowhere)
