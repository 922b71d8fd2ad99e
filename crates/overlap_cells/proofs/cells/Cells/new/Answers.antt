-- No cell has a stack.
use Rattle.std.proofs.Common.{refl}
use Rattle.overlap_cells.specs.Places.{cells}
use Rattle.overlap_cells.proofs.Chains.{none_short, none_onward, none_there}
use Rattle.overlap_cells.proofs.cells.Cells.new.Goals as goal

pub invariant_of-result-2 : goal.invariant_of-result-2
invariant_of-result-2 c = record {
  short = λ k. none_short cells k record { frames = 0; base = 0; rest = 289; inside = _ } refl;
  onward = λ k h. none_onward cells k record { frames = 0; base = 0; rest = 289; inside = _ } refl h;
}

pub returns : goal.returns
returns c = λ k. none_there cells k record { frames = 0; base = 0; rest = 289; inside = _ } refl
