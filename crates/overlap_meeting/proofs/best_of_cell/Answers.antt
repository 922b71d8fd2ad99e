-- Each arm is the clause of `best_with` for its first elements.
use Rattle.overlap_cells.proofs.Chains.{no_frames}
use Rattle.overlap_meeting.proofs.Cells.{cell_both_all, cell_alone, cell_one_all, cell_other_all, cell_same, cell_apart}
use Rattle.overlap_meeting.proofs.best_of_cell.Goals as goal
use Rattle.overlap_meeting.proofs.best_of_cell.Goals.{in-BothAll-true, in-BothAll-false, in-OneAll, in-OtherAll, in-Same, in-Apart}

pub returns-clause-result_value : goal.returns-clause-result_value
returns-clause-result_value c =
    elim c.match-firsts.branch [
      | in-BothAll-true w ↦
          let one = w.at.ensures.value in
          let other = w.at-in-BothAll-true.ensures.value in
          rw w.result-is (cell_alone _ _ _ _ _ _ _ _ w.in-BothAll-true.is one other _ w.in-BothAll-true.alone-test w.better_of.ensures.result_value w.better_of-longer.ensures.result_value)
      | in-BothAll-false w ↦
          let one = w.at-in-BothAll-false.ensures.value in
          let other = w.at-in-BothAll-false-2.ensures.value in
          rw w.result-is (cell_both_all _ _ _ _ _ _ _ _ w.in-BothAll-false.is one other w.in-BothAll-false.alone-test w.better_of-in-BothAll-false.ensures.result_value)
      | in-OneAll w ↦ rw w.result-is (cell_one_all _ _ _ _ _ _ _ _ _ w.in-OneAll.is w.better_of-in-OneAll.ensures.result_value w.at-in-OneAll.ensures.value w.in_front-kept.ensures.result_value)
      | in-OtherAll w ↦ rw w.result-is (cell_other_all _ _ _ _ _ _ _ _ _ w.in-OtherAll.is w.better_of-in-OtherAll.ensures.result_value
          w.at-in-OtherAll.ensures.value w.in_front-kept-in-OtherAll.ensures.result_value)
      | in-Same w ↦ rw w.result-is (cell_same _ _ _ _ _ _ _ w.in-Same.is w.in_front.ensures.result_value)
      | in-Apart w ↦ rw w.result-is (cell_apart _ _ _ _ _ w.in-Apart.is (no_frames _ _ _))
    ]
