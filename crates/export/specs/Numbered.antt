-- The maps by their numbers.
use Rattle.std.specs.Prelude.{ℕ, cond, eqb, Option, Some, None}
use Rattle.paper.specs.declared.Map.{Map}
use Rattle.paper.specs.declared.Map.TheVariants.{Objects, Subjects}

-- the map of a number, as `lookup_numbered` takes it: 1 the object map, 2 the subject map
abbrev pub map_numbered : ℕ → Option Map
map_numbered n = cond (eqb n 1) (Some Objects) (cond (eqb n 2) (Some Subjects) None)
