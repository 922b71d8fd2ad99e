-- Each answer is the clause of `firsts_at` for the two elements and the frame that both meet.
use Rattle.std.proofs.Common.{rules}
use Rattle.overlap_cells.proofs.Beginnings.{firsts_both_all, firsts_apart_one, firsts_apart_other, firsts_one_all, firsts_other_all, firsts_same}
use Rattle.overlap_cells.proofs.firsts.Firsts.of.Goals as goal

pub returns-in-All-All : goal.returns-in-All-All
returns-in-All-All c = search (rules, firsts_both_all)

pub returns-in-Some : goal.returns-in-Some
returns-in-Some c = search (rules, firsts_one_all)

pub returns-in-None : goal.returns-in-None
returns-in-None c = search (rules, firsts_apart_other)

pub returns-in-Some-common_frame : goal.returns-in-Some-common_frame
returns-in-Some-common_frame c = search (rules, firsts_other_all)

pub returns-in-None-common_frame : goal.returns-in-None-common_frame
returns-in-None-common_frame c = search (rules, firsts_apart_one)

pub returns-in-Some-common_frame-2 : goal.returns-in-Some-common_frame-2
returns-in-Some-common_frame-2 c = search (rules, firsts_same)

pub returns-in-None-common_frame-2 : goal.returns-in-None-common_frame-2
returns-in-None-common_frame-2 c = search (rules, firsts_apart_one)
