-- How many places a pattern has, and how many cells two patterns.
use Rattle.std.specs.Prelude.{ℕ, ◌+◌, ◌*◌}
use Rattle.paper.specs.Limits.{most_elements}

-- the places in a pattern: of its elements, and its end
abbrev pub places : ℕ
places = most_elements + 1

-- the cells before this one are filled; those from it on have no stack
abbrev pub filled : ℕ
filled = most_elements * places

-- each cell that is filled is made of the one after it, the one a row on, and the one after that: of cells up to this one
abbrev pub last_cell : ℕ
last_cell = filled + places

abbrev pub cells : ℕ
cells = last_cell + 1
