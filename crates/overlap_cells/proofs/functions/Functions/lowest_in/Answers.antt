-- What is read, or nothing past the end.
use Rattle.std.proofs.Common.{None, rules}
use Rattle.overlap_cells.proofs.Lowest.{low_read, low_past_end}
use Rattle.overlap_cells.proofs.functions.Functions.lowest_in.Goals as goal

pub returns-in_err-get : goal.returns-in_err-get
returns-in_err-get c = search (rules, low_past_end)

pub returns : goal.returns
returns c = low_read _ _ _ _ c.args.self.now.lowest (c.in_ok-get.ensures.lookup.3.1 None)
