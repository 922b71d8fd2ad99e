-- The loop: what is left of both stacks decides as all of them does.
use Rattle.std.proofs.Common.{◌≡◌, ◌-◌}
use Rattle.overlap_cells.specs.Best.{lower_or_same}
use Rattle.overlap_cells.specs.Cells.{stack_of, chain_stack}
use Rattle.overlap_cells.proofs.cells.Cells.lower_or_same.Given as goal

abbrev pub invariant-loop : goal.invariant-loop
invariant-loop l =
    lower_or_same (chain_stack l.self.chains l.fn.x) (chain_stack l.self.chains l.fn.y)
    ≡ lower_or_same (stack_of l.self.chains (l.end - l.counter) l.a.base l.a.rest) (stack_of l.self.chains (l.end - l.counter) l.b.base l.b.rest)
