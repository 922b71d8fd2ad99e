-- An element as the code tells it.
use Rattle.std.specs.Prelude.{ℕ, ◌≡◌}
use Rattle.paper.specs.Policy.{Element, all, fn, any_in}
use Rattle.paper.specs.Table.{element_in}
use Rattle.overlap_cells.specs.declared.element.Element.{Element as Told}
use Rattle.overlap_cells.specs.declared.element.Element.TheVariants.{All, Function, Domain}

-- the element that the code means
abbrev pub meant : Told → Element
meant All = all
meant (Function f) = fn f
meant (Domain d) = any_in d

-- the code tells the element of a word
abbrev pub IsOf : ℕ → Told → Type 0
IsOf word told = meant told ≡ element_in word
