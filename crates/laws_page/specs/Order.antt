-- 4, 9 and 5 as three tests of a line, each by itself, and their order: "4, 9 or 5 (in that order on one line)".
use Rattle.std.specs.Prelude.{List, [], ◌∷◌, Bool, true, false, cond, not, ◌&&◌, ◌||◌, ℕ, eqb, length, drop}
use Rattle.paper.specs.Common.{is_empty, all_of, is, is_one}
use Rattle.paper.specs.Text.{Line}
use Rattle.paper.specs.Scalars.{is_scalar}
use Rattle.paper.specs.Lists.{bracketed, inside, spaced, elements}
use Rattle.paper.specs.declared.Value.{Value}
use Rattle.paper.specs.declared.Value.TheVariants.{Keys, NoneOrItems, AllOrKeys, AllNoneOrItems, One, ListOf, SomeOf, ListOrAll}
use Rattle.paper.specs.Listing.{nowhere, row_at, key_at}
use Rattle.paper.specs.Page.{State, places_for, place_of, one_space_and_value}

unfoldable pub in_order : Bool → Bool → Bool → ℕ
in_order four nine five = cond four 4 (cond nine 9 (cond five 5 0))

-- ---- of a value

unfoldable pub is_list : List ℕ → Bool
is_list v = bracketed v && spaced 0 (inside v)

-- 4: "layout (also no list, block or `all` where one is due)"
unfoldable pub value_four : Value → List ℕ → Bool
value_four Keys v = true
value_four NoneOrItems v = not (is "[]" v)
value_four AllOrKeys v = not (is "all" v)
value_four AllNoneOrItems v = not (is_one ("all" ∷ "[]" ∷ []) v)
value_four (One s) v = false
value_four (ListOf s) v = not (is_list v)
value_four (SomeOf s) v = not (is_list v)
value_four (ListOrAll s) v = not (is "all" v) && not (is_list v)

-- 9: "`call_context: []`"
unfoldable pub value_nine : Value → List ℕ → Bool
value_nine Keys v = false
value_nine NoneOrItems v = false
value_nine AllOrKeys v = false
value_nine AllNoneOrItems v = false
value_nine (One s) v = false
value_nine (ListOf s) v = false
value_nine (SomeOf s) v = is "[]" v
value_nine (ListOrAll s) v = false

-- 5: "scalar malformed, list elements too"
unfoldable pub value_five : Value → List ℕ → Bool
value_five Keys v = false
value_five NoneOrItems v = false
value_five AllOrKeys v = false
value_five AllNoneOrItems v = false
value_five (One s) v = not (is_scalar s v)
value_five (ListOf s) v = not (all_of (is_scalar s) (elements v))
value_five (SomeOf s) v = not (all_of (is_scalar s) (elements v))
value_five (ListOrAll s) v = not (all_of (is_scalar s) (elements v))

-- ---- of a line after a state

abbrev pub place_in : State → Line → ℕ
place_in st l = place_of (places_for st l.text) l.text

-- what stands after its key
abbrev pub rest_of : State → Line → List ℕ
rest_of st l = drop (length (key_at (place_in st l))) l.text

unfoldable pub line_four : State → Line → Bool
line_four st l =
    not l.ended
    || eqb (place_in st l) nowhere
    || (not (is_empty (rest_of st l)) && (not (one_space_and_value (rest_of st l)) || value_four (row_at (place_in st l)).value (drop 1 (rest_of st l))))

-- a bare field's own 9 is known only behind it: `Empty` of First.antt
unfoldable pub line_nine : State → Line → Bool
line_nine st l = not (is_empty (rest_of st l)) && value_nine (row_at (place_in st l)).value (drop 1 (rest_of st l))

unfoldable pub line_five : State → Line → Bool
line_five st l = not (is_empty (rest_of st l)) && value_five (row_at (place_in st l)).value (drop 1 (rest_of st l))
