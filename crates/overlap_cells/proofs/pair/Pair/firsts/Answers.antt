-- A pattern at its end has no first element; else the words at the two places are read.
use Rattle.std.proofs.Common.{◌/◌, ◌%◌, refl}
use Rattle.overlap_cells.specs.Places.{places}
use Rattle.overlap_cells.proofs.OnlyAll.{both_end}
use Rattle.overlap_cells.proofs.Beginnings.{one_ended, other_ended, firsts_read}
use Rattle.overlap_cells.proofs.pair.Pair.firsts.Goals as goal

pub returns-in-Some-Some : goal.returns-in-Some-Some
returns-in-Some-Some c =
    let pair = c.args.self.now in
    let one = c.in-Some-Some.ensures.lookup.3 in
    let other = c.in-Some-Some.ensures'.lookup.3 in
    let last = both_end _ _ _ _ _ _ _ _ pair.p_ended pair.q_ended refl in
    firsts_read _ _ _ _ _ _ _ _ _ _ _ _ one other c.from.ensures c.from-in-Some-Some.ensures last c.of.ensures

pub returns-in_default : goal.returns-in_default
returns-in_default c = other_ended _ _ c.args.self.now.p.now _ (c.args.k / places) _ c.in_default.ensures'.lookup.3

pub returns-in_default-2 : goal.returns-in_default-2
returns-in_default-2 c = one_ended _ _ _ c.args.self.now.q.now _ (c.args.k % places) c.in_default.ensures.lookup.3
