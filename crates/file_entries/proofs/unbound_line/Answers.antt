-- The loop: the smaller of the line so far and the smallest of the entries that are left is the smallest of all.
use Rattle.std.proofs.Common.{rules}
use Rattle.file_entries.proofs.Unbound.{unbound_starts, unbound_on, unbound_ends}
use Rattle.file_entries.proofs.unbound_line.Goals as goal

pub loop-entry-init : goal.loop-entry-init
loop-entry-init c = search (rules, unbound_starts)

pub loop-entry-preserved : goal.loop-entry-preserved
loop-entry-preserved c = search (rules, unbound_on)

pub returns : goal.returns
returns c = search (rules, unbound_ends)
