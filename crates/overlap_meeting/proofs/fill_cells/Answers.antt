-- The loop: the cells from k on hold the best stacks.
use Rattle.std.proofs.Common.{rules, arith, ◌-◌, ◌<◌}
use Rattle.overlap_cells.specs.Places.{last_cell}
use Rattle.overlap_cells.proofs.Chains.{no_frames}
use Rattle.overlap_meeting.proofs.Cells.{none_filled, cell_apart, cell_short, cell_stored, all_filled}
use Rattle.overlap_meeting.proofs.fill_cells.Goals as goal
use Rattle.overlap_meeting.proofs.fill_cells.Goals.{in-Apart, in_default}

pub loop-k-init : goal.loop-k-init
loop-k-init c = none_filled _ _ _ _ _ c.requires.p_fits c.requires.empty

pub put-requires-clause-short : goal.put-requires-clause-short
put-requires-clause-short c =
    let low = c.lowest_alone-lowest.ensures.by_cells c.loop-k.cells.chains in
    elim c.match-firsts.branch [
      | in-Apart w ↦ rw w.best-is (omega arith)
      | in_default w ↦
          rw w.best-is (cell_short _ _ _ _ _ _ c.loop-k.invariant _ _ w.best_of_cell-best.result c.loop-k-test.true c.loop-k.auto.k c.requires.p_fits c.requires.q_fits
          c.firsts.ensures low w.best_of_cell-best.ensures.result_value)
    ]

pub loop-k-preserved : goal.loop-k-preserved
loop-k-preserved c =
    let low = c.lowest_alone-lowest.ensures.by_cells c.loop-k.cells.chains in
    let put = c.put.ensures in
    let far : c.loop-k.k - 1 < last_cell = omega arith in
    let stored = cell_stored _ _ _ _ _ _ c.loop-k.invariant _ _ _ _ put.there put.others c.loop-k.cells.onward c.loop-k-test.true c.loop-k.auto.k
    c.requires.p_fits c.requires.q_fits c.firsts.ensures low in
    elim c.match-firsts.branch [
      | in-Apart w ↦ stored (rw w.best-is (cell_apart _ _ _ _ _ w.in-Apart.is (no_frames _ _ _))) (rw w.best-is far)
      | in_default w ↦ stored (rw w.best-is w.best_of_cell-best.ensures.result_value) (rw w.best-is w.best_of_cell-best.ensures.ahead)
    ]

pub returns : goal.returns
returns c = search (rules, all_filled)
