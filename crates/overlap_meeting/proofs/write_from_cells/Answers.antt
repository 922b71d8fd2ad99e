-- The cells are filled, and the stack of the first stands over the zeros.
use Rattle.overlap_meeting.proofs.Writing.{best_written}
use Rattle.overlap_meeting.proofs.write_from_cells.Goals as goal

pub returns : goal.returns
returns c =
    let pair = c.new-pair.ensures in
    let cells = c.fill_cells.new.cells in
    let done = rw (pair.domains, pair.domain, pair.patterns.0, pair.patterns.1) at c.fill_cells.ensures in
    best_written _ _ _ _ _ done _ _ _ _ _ c.at-best.ensures.value cells.short c.clear_witness.ensures c.write_stack.ensures c.then_some.ensures
