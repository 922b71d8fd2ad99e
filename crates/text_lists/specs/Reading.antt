-- An element read part by part: where it ends, if it is the scalar asked for.
use Rattle.std.specs.Prelude.{ℕ, ◌+◌, List, [], ◌∷◌, Bool, true, false, Option, eqb, take, drop}
use Rattle.std.specs.Bool.{then_some}
use Rattle.paper.specs.Text.{comma, bar}
use Rattle.paper.specs.declared.Scalar.{Scalar}
use Rattle.paper.specs.Scalars.{is_scalar}
use Rattle.laws.specs.Pieces.{before}

-- the element that begins at a place, and where it ends
abbrev pub element_from : List ℕ → ℕ → List ℕ
element_from s at = take (before comma (drop at s)) (drop at s)

abbrev pub end_from : List ℕ → ℕ → ℕ
end_from s at = at + before comma (drop at s)

-- an element ends before these bytes: a comma is the first of them, or there is none
unfoldable pub element_ends : List ℕ → Bool
element_ends [] = true
element_ends (b ∷ bs) = eqb b comma

-- a part ends before these bytes, and another follows
unfoldable pub bar_stands : List ℕ → Bool
bar_stands [] = false
bar_stands (b ∷ bs) = eqb b bar

-- an end, where what leads to it is right
abbrev pub read_if : Bool → ℕ → Option ℕ
read_if right end = then_some right end

-- the element that begins at a place, read as a scalar
unfoldable pub read_at : Scalar → List ℕ → ℕ → Option ℕ
read_at scalar s at = read_if (is_scalar scalar (element_from s at)) (end_from s at)
