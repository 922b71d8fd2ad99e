-- What a writer asks of the bytes lent to it, and what it leaves in them.
use Rattle.std.specs.Prelude.{ℕ, ◌≤◌, ◌≡◌, List, ◌++◌, length, drop}

-- there is room for a text
abbrev pub Fits : List ℕ → List ℕ → Type 0
Fits text out = length text ≤ length out

-- a text was written at the front, and the answer is how far: behind it nothing changed
pub record Wrote (text before after : List ℕ) (r : ℕ) : Type 0 where
  pub room : length text ≤ length before
  pub far : r ≡ length text
  pub left : after ≡ text ++ drop (length text) before
