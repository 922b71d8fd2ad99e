-- What it is to split off one line: whoever reads lines stands on this and on nothing else.
use Rattle.std.specs.Prelude.{◌≡◌, Bool, true, cond, not, List, [], ◌∷◌, ℕ, suc, ◌-◌, ◌<◌, ◌≤◌, eqb, length, take, drop}
use Rattle.paper.specs.Text.{line_feed, next_byte, return_before_feed, lines_from}
use Rattle.text_lines.specs.declared.LineAt.{LineAt}

-- the lines from `at` on are the line from `at` to its end, and the lines from the next on
pub record Splits (t : List ℕ) (at : ℕ) (l : LineAt) : Type 0 where
  pub splits :
      lines_from at (drop at t)
      ≡ record { start = at; text = take (l.end - at) (drop at t); ended = l.ended } ∷ lines_from l.next (drop l.next t)
  pub after : at ≤ l.end
  pub inside : l.end ≤ length t
  pub further : at < l.next
  pub stays : l.next ≤ length t
  -- LF stands between the two
  pub fed : l.ended ≡ true → l.end < l.next

-- how many bytes the first line of a text holds: those before its end, which is LF, or CR LF
unfoldable pub held_bytes : List ℕ → ℕ
held_bytes [] = 0
held_bytes (b ∷ bs) = cond (return_before_feed b (next_byte bs)) 0 (cond (eqb b line_feed) 0 (suc (held_bytes bs)))

-- a line goes on behind this byte: it does not end it
abbrev pub goes_on : ℕ → Bool
goes_on b = not (eqb b line_feed)
