-- As long as its lines.
use Rattle.std.proofs.Common.{rules}
use Rattle.filled_size.proofs.Lines.{omitted_counts, omitted_measured}
use Rattle.filled_size.proofs.MeasureSink.omitted_keys.Goals as goal

pub overflow_add-self : goal.overflow_add-self
overflow_add-self c = search (rules, omitted_counts)

pub returns : goal.returns
returns c = search (rules, omitted_measured)
