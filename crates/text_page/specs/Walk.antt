-- The walk over a text's fields: what it answers at a cursor, and what that says of what is left of the page. Every pass over a text stands on this.
use Rattle.std.specs.Prelude.{ℕ, ◌+◌, ◌-◌, ◌<◌, ◌≤◌, List, [], ◌∷◌, Bool, false, Option, Some, None, Result, Ok, Err, length, take, drop}
use Rattle.paper.specs.declared.Fault.{Fault}
use Rattle.paper.specs.Text.{Line, lines_from}
use Rattle.paper.specs.Page as paper
use Rattle.paper.specs.Page.{Outcome, fields, fault, and_fields, line_step, at_end, page_from}
use Rattle.text_page.specs.Steps.{state_of}
use Rattle.text_page.specs.declared.Cursor.{Cursor}
use Rattle.text_page.specs.declared.Field.{Field}

-- what the walk answers: the next field, none at the end, or a refusal
abbrev pub Next : Type 0
Next = Result (Option Field) Fault

abbrev pub at_start : Cursor
at_start = record { at = 0; line = 1; state = record { place = 0; bare = false; line = 0 } }

-- the cursor behind a field
abbrev pub cursor_behind : ℕ → ℕ → Bool → ℕ → Cursor
cursor_behind line place bare next = record { at = next; line = line + 1; state = record { place = place; bare = bare; line = line } }

-- the walk at the end of the text, where no field is left
abbrev pub last_next : Outcome → Next
last_next (fields fs) = Ok None
last_next (fault number line) = Err (record { number = number; line = line })

-- where the first of some lines starts; where there is none, the text ends there
abbrev pub start_of : ℕ → List Line → ℕ
start_of end [] = end
start_of end (l ∷ ls) = l.start

-- what the walk answers at a step with these lines behind it: the field and where they start, a refusal, or what it answers at those
abbrev pub next_after : ℕ → List Line → paper.Step → (paper.State → Next) → Next
next_after end ls (paper.pass st []) behind = behind st
next_after end ls (paper.pass st (f ∷ fs)) behind =
    Ok (Some (record { line = f.line; place = f.place; start = f.start; bare = st.bare; end = f.start + length f.value; next = start_of end ls }))
next_after end ls (paper.stop number line) behind = Err (record { number = number; line = line })

-- the next field of the lines from line n on
unfoldable pub next_in : ℕ → paper.State → ℕ → List Line → Next
next_in end st n [] = last_next (at_end st n)
next_in end st n (l ∷ ls) = next_after end ls (line_step st n l) (λ st'. next_in end st' (n + 1) ls)

-- the next field at a cursor
unfoldable pub next_left : List ℕ → Cursor → Next
next_left t c = next_in (length t) (state_of c.state) c.line (lines_from c.at (drop c.at t))

-- what is left of the page at a cursor
unfoldable pub page_left : List ℕ → Cursor → Outcome
page_left t c = page_from (state_of c.state) c.line (lines_from c.at (drop c.at t))

-- what the answer says of that: a field and what is left behind it, nothing, or a refusal
abbrev pub page_next : List ℕ → Next → Outcome
page_next t (Ok (Some f)) =
    and_fields
    (record { line = f.line; place = f.place; start = f.start; value = take (f.end - f.start) (drop f.start t) } ∷ [])
    (page_left t (cursor_behind f.line f.place f.bare f.next))
page_next t (Ok None) = fields []
page_next t (Err r) = fault r.number r.line

-- a page's refusal, where it has one
abbrev pub refusal_of : Outcome → Result Unit Fault
refusal_of (fields fs) = Ok tt
refusal_of (fault number line) = Err (record { number = number; line = line })

-- the shortest line with a field: `- name:` and its LF
abbrev pub field_bytes : ℕ
field_bytes = 8

-- the listing has so many rows, the one before the first line counted
abbrev pub places : ℕ
places = 31

-- a field's value stands in the text and on its line, and the walk goes on behind that line:
-- a text of n bytes has at most n / field_bytes fields, and their values have together at most n bytes
abbrev pub Within : List ℕ → ℕ → Next → Type 0
Within t at (Ok (Some f)) =
    (f.start ≤ f.end)
    × (f.end ≤ length t)
    × (at + field_bytes ≤ f.next)
    × (f.next ≤ length t)
    × (f.line + 1 ≤ f.next + 1)
    × (at + (f.end - f.start) ≤ f.next)
    × (f.line ≤ length t)
    × (f.place < places)
Within t at (Ok None) = Unit
Within t at (Err r) = Unit
