-- List values (document 01, "The page": "Lists are `[]` or `[a, b]`, with one space after each comma and none elsewhere").
use Rattle.std.specs.Prelude.{ℕ, ◌-◌, List, [], ◌∷◌, map, Bool, cond, not, ◌&&◌, eqb, leb, length, get_or, take, drop}
use Rattle.std.specs.Bool.{beq}
use Rattle.paper.specs.Common.{is_empty, all_of, cut}
use Rattle.paper.specs.declared.Scalar.{Scalar}
use Rattle.paper.specs.Text.{space, comma, open_bracket, close_bracket}
use Rattle.paper.specs.Scalars.{is_scalar}

-- a value that begins with `[` and ends with `]`
unfoldable pub bracketed : List ℕ → Bool
bracketed v = leb 2 (length v) && eqb (get_or v 0 0) open_bracket && eqb (get_or v (length v - 1) 0) close_bracket

-- what stands between the brackets
abbrev pub inside : List ℕ → List ℕ
inside v = take (length v - 2) (drop 1 v)

-- "one space after each comma and none elsewhere": each byte is a space exactly where the byte before it, `last`, is a comma, and no comma is the last byte;
-- before the first byte `last` is 0, which is no byte of a page
unfoldable pub spaced : ℕ → List ℕ → Bool
spaced last [] = not (eqb last comma)
spaced last (b ∷ bs) = beq (eqb last comma) (eqb b space) && spaced b bs

-- an element, of what stands between two commas: the space behind the first of them is not part of it
unfoldable pub unspaced : List ℕ → List ℕ
unspaced [] = []
unspaced (b ∷ bs) = cond (eqb b space) (unspaced bs) (b ∷ unspaced bs)

-- what stands between the commas, the spaces aside; between brackets with nothing in them there is no element
unfoldable pub elements_in : List ℕ → List (List ℕ)
elements_in s = cond (is_empty s) [] (map unspaced (cut comma s))

-- the elements of a value; one that is no list (`all`, a bare field) has none
unfoldable pub elements : List ℕ → List (List ℕ)
elements v = cond (bracketed v) (elements_in (inside v)) []

-- 4: "layout (also no list .. where one is due)"; 5: "scalar malformed, list elements too"; 0: neither
unfoldable pub list_fault : Scalar → List ℕ → ℕ
list_fault scalar v =
    cond (bracketed v && spaced 0 (inside v)) (cond (all_of (is_scalar scalar) (elements v)) 0 5) 4
