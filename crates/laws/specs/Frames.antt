-- The frames that one element of a pattern meets.
use Rattle.std.specs.Prelude.{ℕ, Bool, true, List, eqb}
use Rattle.paper.specs.Policy.{Element, all, fn, any_in}
use Rattle.paper.specs.Match.{lies_in}

-- `all` meets every frame, a function its own, a domain those of its functions
unfoldable pub meets_frame : List ℕ → Element → ℕ → Bool
meets_frame functions all x = true
meets_frame functions (fn f) x = eqb f x
meets_frame functions (any_in domain) x = lies_in functions domain x
