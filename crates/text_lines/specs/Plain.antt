-- The bytes that most texts are made of; and a line's number.
use Rattle.std.specs.Prelude.{ℕ, Bool, Option, Some, None, cond, ◌||◌, eqb}
use Rattle.paper.specs.Common.{within}
use Rattle.paper.specs.Text.{line_feed}

-- a byte that may stand before any other
abbrev pub is_plain : ℕ → Bool
is_plain b = eqb b line_feed || within 0x20 0x7E b

-- the line of this number, if it is one: lines are numbered from 1
abbrev pub line_if : ℕ → Option ℕ
line_if n = cond (eqb n 0) None (Some n)
