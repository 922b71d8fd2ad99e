-- What is written stands in the output, so it is no longer than that.
use Rattle.std.proofs.Common.{rules}
use Rattle.fill.proofs.Reading.{taken}
use Rattle.fill_output.proofs.Program.{size_within}
use Rattle.fill.proofs.write_answer.Goals as goal

pub slice_bounds-out-end : goal.slice_bounds-out-end
slice_bounds-out-end c = search (rules, size_within)

pub slice_bounds-write_all-end : goal.slice_bounds-write_all-end
slice_bounds-write_all-end c = search (rules, size_within, taken)
