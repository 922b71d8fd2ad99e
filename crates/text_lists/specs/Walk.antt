-- The walk over the elements between a list's brackets, from one place to the next.
use Rattle.std.specs.Prelude.{ℕ, ◌+◌, ◌≡◌, List, [], map, Option, Some, None, cond, true, ltb, length, drop}
use Rattle.paper.specs.Common.{is_empty, cut}
use Rattle.paper.specs.Text.{comma}
use Rattle.paper.specs.Lists.{spaced, unspaced}
use Rattle.laws.specs.Pieces.{before}
use Rattle.text_lists.specs.declared.Element.{Element}

-- where the first element begins: past the end where there is none
abbrev pub first_element : List ℕ → ℕ
first_element s = cond (is_empty s) 1 0

-- an element that ends at this place: the next begins behind the comma and its space, past the end where this was the last
abbrev pub element_to : ℕ → Element
element_to end = record { end = end; next = end + 2 }

-- the element that begins at a place: up to the comma; past the end there is none
unfoldable pub element_at : List ℕ → ℕ → Option Element
element_at s at = cond (ltb (length s) at) None (Some (element_to (at + before comma (drop at s))))

-- the elements from a place on
unfoldable pub elements_left : List ℕ → ℕ → List (List ℕ)
elements_left s at = cond (ltb (length s) at) [] (map unspaced (cut comma (drop at s)))

-- what stands from a place on is spaced as a list is
abbrev pub SpacedFrom : List ℕ → ℕ → Type 0
SpacedFrom s at = spaced 0 (drop at s) ≡ true
