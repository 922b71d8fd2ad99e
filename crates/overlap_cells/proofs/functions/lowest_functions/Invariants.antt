-- The loop: the lowest of the functions from f on.
use Rattle.std.proofs.Common.{◌≡◌, length}
use Rattle.paper.specs.Limits.{most_domains}
use Rattle.overlap_cells.proofs.Lowest.{LowsFrom}
use Rattle.overlap_cells.proofs.functions.lowest_functions.Given as goal

abbrev pub invariant-loop-f : goal.invariant-loop-f
invariant-loop-f l = (length l.lows ≡ most_domains) × LowsFrom l.domains l.lows l.f
