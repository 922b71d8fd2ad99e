-- The lines of the filled text.
use mathlib.Core.Path.{◌≡◌}
use mathlib.Core.List.{List, [], ◌∷◌, ◌++◌}
use Prim.Native.Nat.{ℕ, ◌≤◌}
use lib.ListN.{length}
use Rattle.paper.specs.Text.{line_feed, space}
use Rattle.paper.specs.Listing.{row_at, key_at}
use Rattle.paper.specs.Filled.{key_line, bare_line}
use Rattle.text_keys.specs.Rows.{key_text, seen, told}
use Rattle.text_keys.specs.declared.rows.Row.{Row}
use Rattle.text_keys.proofs.Looks.{key_of}
use Rattle.filled_lines.specs.Wrote.{Wrote}

module _ (place : ℕ) (r : Row) (e : seen r ≡ told (row_at place)) where
  pub key_of_room : (old : List ℕ) → length (key_at place) ≤ length old → length (key_text r.key) ≤ length old
  key_of_room old h = rw (key_of place r e) h

  pub key_of_wrote : (old out : List ℕ) (n : ℕ) → Wrote (key_text r.key) old out n → Wrote (key_at place) old out n
  key_of_wrote old out n w = rw (key_of place r e) at w

-- ---- a line

module _ (place : ℕ) (old : List ℕ) where
  pub bare_room : length (bare_line place) ≤ length old → length (key_at place ++ (line_feed ∷ [])) ≤ length old
  unfolding bare_line
  bare_room h = h

  pub bare_wrote : (out : List ℕ) (n : ℕ) → Wrote (key_at place ++ (line_feed ∷ [])) old out n → Wrote (bare_line place) old out n
  unfolding bare_line
  bare_wrote out n w = w

  module _ (v : List ℕ) where
    pub key_room : length (key_line place v) ≤ length old → length (key_at place ++ ((space ∷ []) ++ (v ++ (line_feed ∷ [])))) ≤ length old
    unfolding key_line
    key_room h = h

    pub key_wrote : (out : List ℕ) (n : ℕ) → Wrote (key_at place ++ ((space ∷ []) ++ (v ++ (line_feed ∷ [])))) old out n
        → Wrote (key_line place v) old out n
    unfolding key_line
    key_wrote out n w = w
