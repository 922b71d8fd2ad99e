-- Four stores, in the order in which `inserted_at` sets the words.
use Rattle.std.proofs.Common.{length-set, arith, rules}
use Rattle.file_index.proofs.Steps.{inserted_is}
use Rattle.file_index.proofs.insert.Goals as goal

pub bounds-ix-at-2 : goal.bounds-ix-at-2
bounds-ix-at-2 c = simp length-set (omega arith)

pub bounds-ix-at-3 : goal.bounds-ix-at-3
bounds-ix-at-3 c = simp length-set (omega arith)

pub bounds-ix-w : goal.bounds-ix-w
bounds-ix-w c = simp length-set (omega arith)

pub shape_of-ix : goal.shape_of-ix
shape_of-ix c = simp length-set

pub returns : goal.returns
returns c = search (rules, inserted_is)
