-- The page: the list of its fields, or the first line with 4, 9 or 5 "(in that order on one line)" (document 01, "The page" and "Numbers that come back").
use Rattle.std.specs.Prelude.{ℕ, zero, suc, ◌+◌, ◌-◌, List, [], ◌∷◌, ◌++◌, Bool, true, false, cond, not, ◌&&◌, eqb, leb, length, get_or, drop}
use Rattle.paper.specs.Common.{is_empty, is_front_of}
use Rattle.paper.specs.Text.{Line, lines, skipped, space, no_line}
use Rattle.paper.specs.Listing.{nowhere, row_at, key_at, at_block, bare_is_none, no_fault, value_fault}

-- a field: its line, its place in the listing, and its value with where that starts in the text; a bare field's value is empty
pub record Field : Type 0 where
  pub line : ℕ
  pub place : ℕ
  pub start : ℕ
  pub value : List ℕ

-- what is looked at where there is no field
abbrev pub no_field : Field
no_field = record { line = no_line; place = nowhere; start = 0; value = [] }

-- what becomes of a text: its fields in order, or a refusal with number and line
pub data Outcome : Type 0 where
  fields : List Field → Outcome
  fault : ℕ → ℕ → Outcome

-- between two lines: the place and line of the last field, and whether it was bare
pub record State : Type 0 where
  pub place : ℕ
  pub bare : Bool
  pub line : ℕ

-- before the first line nothing stands open
unfoldable pub before_first : State
before_first = record { place = nowhere; bare = false; line = no_line }

-- what a line does: a field more (a skipped line: none) and the state after it, or a refusal
pub data Step : Type 0 where
  pass : State → List Field → Step
  stop : ℕ → ℕ → Step

-- "A field is empty when its line ends at the colon and, where a block could follow, the next unskipped line isn't at that block's column":
-- a bare field that does not mean `[]` is left empty unless the next unskipped line, `here`, begins its block
unfoldable pub is_left_empty : State → Bool → Bool
is_left_empty st here = st.bare && not (bare_is_none (row_at st.place).value) && not here

-- the places that a line may have: those that the block begins with, or those that follow
unfoldable pub places_for : State → List ℕ → List ℕ
places_for st l = cond (st.bare && at_block st.place l) (row_at st.place).block (row_at st.place).next

-- the place whose key the line begins with
unfoldable pub place_of : List ℕ → List ℕ → ℕ
place_of [] l = nowhere
place_of (p ∷ ps) l = cond (is_front_of (key_at p) l) p (place_of ps l)

-- "A colon is followed by one space and a value". "No trailing spaces."
unfoldable pub one_space_and_value : List ℕ → Bool
one_space_and_value rest =
    leb 2 (length rest)
    && eqb (get_or rest 0 0) space
    && not (eqb (get_or rest 1 0) space)
    && not (eqb (get_or rest (length rest - 1) 0) space)

-- a line that holds a field, bare or not, which is refused on that line where its value has a fault
unfoldable pub field_step : Field → Bool → ℕ → Step
field_step f bare zero = pass (record { place = f.place; bare = bare; line = f.line }) (f ∷ [])
field_step f bare (suc number) = stop (suc number) f.line

-- what stands from a place of the text on, after the key: "one space and a value, or .. the line's end"
unfoldable pub after_key : ℕ → ℕ → ℕ → List ℕ → Step
after_key n place from rest =
    cond (is_empty rest)
    (field_step (record { line = n; place = place; start = from; value = [] }) true no_fault)
    (cond (one_space_and_value rest)
    (field_step (record { line = n; place = place; start = from + 1; value = drop 1 rest }) false (value_fault (row_at place).value (drop 1 rest)))
    (stop 4 n))

-- line n, which begins with the key of this place; 4 where it has none: "key, missing key"
unfoldable pub place_step : ℕ → ℕ → Line → Step
place_step n place l =
    cond (eqb place nowhere) (stop 4 n)
    (after_key n place (l.start + length (key_at place)) (drop (length (key_at place)) l.text))

-- a step, unless the field above is left empty: 9 on its own line
unfoldable pub unless_empty : State → Bool → Step → Step
unless_empty st here step = cond (is_left_empty st here) (stop 9 st.line) step

-- line n after the state: "no LF at the end" is 4 on that line
unfoldable pub line_step : State → ℕ → Line → Step
line_step st n l =
    cond (skipped l.text)
    (cond l.ended (pass st []) (unless_empty st false (stop 4 n)))
    (unless_empty st (at_block st.place l.text)
    (cond l.ended (place_step n (place_of (places_for st l.text) l.text) l) (stop 4 n)))

-- after the last line: n is "one past the last"
unfoldable pub at_end : State → ℕ → Outcome
at_end st n = cond (is_left_empty st false) (fault 9 st.line) (cond (row_at st.place).last (fields []) (fault 4 n))

-- fields in front of those of the rest; a refusal of the rest stays one
abbrev pub and_fields : List Field → Outcome → Outcome
and_fields before (fields after) = fields (before ++ after)
and_fields before (fault number n) = fault number n

-- a step, and then the rest; the first refusal ends the page
abbrev pub after : Step → (State → Outcome) → Outcome
after (pass st before) rest = and_fields before (rest st)
after (stop number n) rest = fault number n

-- the lines from line n on, after the state
unfoldable pub page_from : State → ℕ → List Line → Outcome
page_from st n [] = at_end st n
page_from st n (l ∷ ls) = after (line_step st n l) (λ st'. page_from st' (n + 1) ls)

-- a text's page: its lines "numbered, from 1"
unfoldable pub page_of : List ℕ → Outcome
page_of t = page_from before_first 1 (lines t)
