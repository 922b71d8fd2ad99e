-- Bytes and lines (document 01, "The page", and refusal 3; document 02 b).
use Rattle.std.specs.Prelude.{ℕ, ◌+◌, List, [], ◌∷◌, Bool, true, false, cond, ◌&&◌, ◌||◌, eqb, length, get_or, drop}
use Prim.Native.Char.{code}
use Rattle.paper.specs.Common.{within}

-- the bytes that have a meaning of their own on a page
abbrev pub line_feed : ℕ
line_feed = 10

-- stands before LF where an office file ends a line, and nowhere else
abbrev pub carriage_return : ℕ
carriage_return = 13

-- stands before a key, behind its colon and behind a comma
abbrev pub space : ℕ
space = code " "

-- begins a comment
abbrev pub hash : ℕ
hash = code "#"

-- parts the elements of a list
abbrev pub comma : ℕ
comma = code ","

-- begins a list
abbrev pub open_bracket : ℕ
open_bracket = code "["

-- ends it
abbrev pub close_bracket : ℕ
close_bracket = code "]"

-- parts an identifier
abbrev pub bar : ℕ
bar = code "|"

-- "A CR directly before LF": b is one, before the byte `next`
unfoldable pub return_before_feed : ℕ → ℕ → Bool
return_before_feed b next = eqb b carriage_return && eqb next line_feed

-- the byte that stands first in what is left of a text; where nothing is left, 0, which may stand nowhere
abbrev pub next_byte : List ℕ → ℕ
next_byte bs = get_or bs 0 0

-- 3: "byte other than LF and 0x20 to 0x7E"; "a CR anywhere else [than directly before LF] is still 3"
unfoldable pub may_stand : ℕ → ℕ → Bool
may_stand b next = eqb b line_feed || within 0x20 0x7E b || return_before_feed b next

-- a line number where there is no line: lines are "numbered, from 1"
abbrev pub no_line : ℕ
no_line = 0

-- the line of the first byte that may not stand; n is the line that the text begins on
unfoldable pub bad_byte_line : ℕ → List ℕ → ℕ
bad_byte_line n [] = no_line
bad_byte_line n (b ∷ bs) = cond (may_stand b (next_byte bs)) (bad_byte_line (cond (eqb b line_feed) (n + 1) n) bs) n

-- "each line ended by LF": where a line starts in the text, what it holds, and whether LF ends it
pub record Line : Type 0 where
  pub start : ℕ
  pub text : List ℕ
  pub ended : Bool

-- the line of which nothing but its end is left, at a place
abbrev pub end_at : ℕ → Line
end_at place = record { start = place; text = []; ended = true }

-- b put in front of the first line, which then starts at that place; where there is none, a line begins that nothing ends
unfoldable pub on_line : ℕ → ℕ → List Line → List Line
on_line place b [] = record { start = place; text = b ∷ []; ended = false } ∷ []
on_line place b (l ∷ ls) = record { start = place; text = b ∷ l.text; ended = l.ended } ∷ ls

-- the lines with one byte more in front of them, before the byte `next`: LF is a line of its own that it ends. "A CR directly before LF now
-- belongs to the line's end and to no value": the line that they end is one, and begins at the CR
unfoldable pub with_byte : ℕ → ℕ → ℕ → List Line → List Line
with_byte place b next ls =
    cond (return_before_feed b next) (end_at place ∷ drop 1 ls) (cond (eqb b line_feed) (end_at place ∷ ls) (on_line place b ls))

-- the lines of what stands in a text from a place on
unfoldable pub lines_from : ℕ → List ℕ → List Line
lines_from place [] = []
lines_from place (b ∷ bs) = with_byte place b (next_byte bs) (lines_from (place + 1) bs)

-- the lines of a text, "numbered, from 1" by their place in this list
abbrev pub lines : List ℕ → List Line
lines t = lines_from 0 t

-- the column of what a line holds: how many spaces stand before its first other byte
unfoldable pub column : List ℕ → ℕ
column [] = 0
column (b ∷ bs) = cond (eqb b space) (column bs + 1) 0

-- "Lines that are blank (spaces only) or whose first non-space is `#` are skipped"
unfoldable pub skipped : List ℕ → Bool
skipped l = eqb (column l) (length l) || eqb (get_or l (column l) 0) hash
