-- The key of the row, a space, the value and LF.
use Rattle.std.proofs.Common.{rules}
use Rattle.filled_size.proofs.Lines.{line_counts, line_measured}
use Rattle.filled_size.proofs.MeasureSink.key_line.Goals as goal

pub overflow_add-self-3 : goal.overflow_add-self-3
overflow_add-self-3 c = search (rules, line_counts)

pub returns : goal.returns
returns c = search (rules, line_measured)
