-- An entry as its fields, and what an omitted field means (document 01, "The page").
use Rattle.std.specs.Prelude.{ℕ, List, [], ◌∷◌, Bool, cond, eqb, get_or}
use Rattle.paper.specs.Common.{bytes, any_of, is_empty}
use Rattle.paper.specs.Listing.{principal, execution_context, can_read, can_write, call_context_in, object_context_in, objects_in}
use Rattle.paper.specs.Page.{Field, no_field}

-- the field stands at this place of the listing
abbrev pub is_at : ℕ → Field → Bool
is_at place f = eqb f.place place

-- the field stands at one of these places
unfoldable pub is_at_one : List ℕ → Field → Bool
is_at_one places f = any_of (eqb f.place) places

-- the three contexts that an entry can have, and their `call_context` places
unfoldable pub call_contexts : List ℕ
call_contexts =
    call_context_in execution_context
    ∷ call_context_in (object_context_in can_read)
    ∷ call_context_in (object_context_in can_write)
    ∷ []

-- what is omitted: "(meaning `all`)"; in a context "omitted ones are `[all]`, `all`, `all`"
unfoldable pub default_at : ℕ → List ℕ
default_at place = cond (any_of (eqb place) call_contexts) (bytes "[all]") (bytes "all")

-- a bare field "means `[]`"
unfoldable pub meant : Field → List ℕ
meant f = cond (is_empty f.value) (bytes "[]") f.value

-- the value at a place among these fields, its default where it is omitted
unfoldable pub value_at : ℕ → List Field → List ℕ
value_at place [] = default_at place
value_at place (f ∷ fs) = cond (is_at place f) (meant f) (value_at place fs)

-- the fields of a place, in order
unfoldable pub fields_at : ℕ → List Field → List Field
fields_at place [] = []
fields_at place (f ∷ fs) = cond (is_at place f) (f ∷ fields_at place fs) (fields_at place fs)

-- the fields before the next one of a place
unfoldable pub up_to_next : ℕ → List Field → List Field
up_to_next place [] = []
up_to_next place (f ∷ fs) = cond (is_at place f) [] (f ∷ up_to_next place fs)

-- the stretches that begin with a field of this place
unfoldable pub stretches_from : ℕ → List Field → List (List Field)
stretches_from place [] = []
stretches_from place (f ∷ fs) = cond (is_at place f) ((f ∷ up_to_next place fs) ∷ stretches_from place fs) (stretches_from place fs)

-- an entry is a `principal` with all that follows it up to the next one
unfoldable pub entries_of : List Field → List (List Field)
entries_of fs = stretches_from principal fs

-- an item of `can_read` or `can_write` is an `objects` with what follows it
unfoldable pub items_of : ℕ → List Field → List (List Field)
items_of access entry = stretches_from (objects_in access) entry

-- the line of an entry is that of its `principal`
unfoldable pub line_of_entry : List Field → ℕ
line_of_entry entry = (get_or entry 0 no_field).line
