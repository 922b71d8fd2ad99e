-- The loop: the lowest of the functions from f on.
use Rattle.std.proofs.Common.{rules}
use Rattle.overlap_cells.proofs.Lowest.{domain_below, lows_at_end, lows_before, lows_done}
use Rattle.overlap_cells.proofs.functions.lowest_functions.Goals as goal

pub loop-f-init : goal.loop-f-init
loop-f-init c = search (rules, lows_at_end)

pub bounds-lows-domains : goal.bounds-lows-domains
bounds-lows-domains c = search (rules, domain_below)

pub loop-f-preserved : goal.loop-f-preserved
loop-f-preserved c = search (rules, lows_before)

pub returns : goal.returns
returns c = search (rules, lows_done)
