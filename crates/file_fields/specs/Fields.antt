-- The list of a text's fields: four numbers for each, and the fields that they stand for.
use Rattle.std.specs.Prelude.{ℕ, zero, suc, ◌+◌, ◌-◌, List, [], ◌∷◌, map, Bool, cond, not, ◌&&◌, ◌||◌, eqb, ltb, leb, ◌==◌, get_or, take, drop}
use Rattle.paper.specs.Common.{is_empty, count_up}
use Rattle.paper.specs.Lists.{bracketed, inside, spaced}
use Rattle.paper.specs.Listing.{principal, namespace_in}
use Rattle.paper.specs.Page.{Field}
use Rattle.paper.specs.Entries.{is_at}
use Rattle.file_fields.specs.declared.file.FieldAt.{FieldAt}

-- what is looked at where no field is
abbrev pub nowhere_at : FieldAt
nowhere_at = record { place = 0; line = 0; start = 0; end = 0 }

-- the place of field i, its line, and where its value starts and ends in the text
abbrev pub place_in : List FieldAt → ℕ → ℕ
place_in list i = (get_or list i nowhere_at).place

abbrev pub line_in : List FieldAt → ℕ → ℕ
line_in list i = (get_or list i nowhere_at).line

abbrev pub start_in : List FieldAt → ℕ → ℕ
start_in list i = (get_or list i nowhere_at).start

abbrev pub end_in : List FieldAt → ℕ → ℕ
end_in list i = (get_or list i nowhere_at).end

-- a field stands at a place
abbrev pub stands_at : ℕ → FieldAt → Bool
stands_at place f = f.place == place

-- the value of a field: what stands in the text between its start and its end
abbrev pub value_of : List ℕ → FieldAt → List ℕ
value_of t f = take (f.end - f.start) (drop f.start t)

-- the field that stands there
unfoldable pub field_of : List ℕ → FieldAt → Field
field_of t f = record { line = f.line; place = f.place; start = f.start; value = value_of t f }

-- the value of field i
abbrev pub value_in : List ℕ → List FieldAt → ℕ → List ℕ
value_in t list i = value_of t (get_or list i nowhere_at)

-- field i
abbrev pub field_at : List ℕ → List FieldAt → ℕ → Field
field_at t list i = field_of t (get_or list i nowhere_at)

-- the fields from one number up to another
unfoldable pub between : List ℕ → List FieldAt → ℕ → ℕ → List Field
between t list from to = map (field_at t list) (count_up from (to - from))

-- how many bytes the values of the first n fields have together
unfoldable pub bytes_to : List FieldAt → ℕ → ℕ
bytes_to list zero = 0
bytes_to list (suc n) = bytes_to list n + (end_in list n - start_in list n)

-- the number of the next field of a place among k fields from number i on; where there is none, the number behind them
unfoldable pub next_at : List FieldAt → ℕ → ℕ → ℕ → ℕ
next_at list place i zero = i
next_at list place i (suc k) = cond (eqb (place_in list i) place) i (next_at list place (i + 1) k)

-- a place is that of a key of the context at another
abbrev pub is_key : ℕ → ℕ → Bool
is_key place p = ltb place p && leb p (namespace_in place)

-- a field stands at such a key
abbrev pub is_key_of : ℕ → FieldAt → Bool
is_key_of place f = is_key place f.place

-- the number of the next field at such a key among k fields from number i on; where there is none, the number behind them
unfoldable pub next_key : List FieldAt → ℕ → ℕ → ℕ → ℕ
next_key list place i zero = i
next_key list place i (suc k) = cond (is_key place (place_in list i)) i (next_key list place (i + 1) k)

-- the number behind the last of the first n fields that stands in a map: places of maps are below that of a `principal`
unfoldable pub maps_end : List FieldAt → ℕ → ℕ
maps_end list zero = 0
maps_end list (suc n) = cond (ltb (place_in list n) principal) (suc n) (maps_end list n)

-- one where field i stands at a place
abbrev pub one_in : List FieldAt → ℕ → ℕ → ℕ
one_in list place i = cond (eqb (place_in list i) place) 1 0

-- how many of k fields from number i on stand at a place
unfoldable pub count_at : List FieldAt → ℕ → ℕ → ℕ → ℕ
count_at list place i zero = 0
count_at list place i (suc k) = one_in list place i + count_at list place (i + 1) k

-- the value at a place among these fields, as the paper's `value_at` has it: what an omitted field and a bare one mean is given
unfoldable pub value_or : List ℕ → List ℕ → ℕ → List Field → List ℕ
value_or omitted none place [] = omitted
value_or omitted none place (f ∷ fs) = cond (is_at place f) (cond (is_empty f.value) none f.value) (value_or omitted none place fs)

-- a value that is a list is spaced as a list is
unfoldable pub list_spaced : List ℕ → Bool
list_spaced v = not (bracketed v) || spaced 0 (inside v)

-- the same of a field
unfoldable pub well_spaced : Field → Bool
well_spaced f = list_spaced f.value
