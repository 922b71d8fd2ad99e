-- The key of the row, and LF.
use Rattle.std.proofs.Common.{rules}
use Rattle.filled_size.proofs.Lines.{bare_counts, bare_measured}
use Rattle.filled_size.proofs.MeasureSink.bare_line.Goals as goal

pub overflow_add-self-2 : goal.overflow_add-self-2
overflow_add-self-2 c = search (rules, bare_counts)

pub returns : goal.returns
returns c = search (rules, bare_measured)
