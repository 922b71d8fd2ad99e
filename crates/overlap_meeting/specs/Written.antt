-- What is asked before the best stack of two patterns is written, and what is left then.
use Rattle.std.specs.Prelude.{ℕ, ◌≤◌, ◌≡◌, List, [], ◌∷◌, Option, Some, None, length}
use Rattle.paper.specs.Limits.{most_elements, witness_words}
use Rattle.paper.specs.Overlap.{witness_left}

-- the words of two patterns are within the limits, and the witness has room
pub record Fits (p q witness : List ℕ) : Type 0 where
  pub one : length p ≤ most_elements
  pub other : length q ≤ most_elements
  pub room : witness_words ≤ length witness

-- how many frames a stack has, if any
abbrev pub depth_of : List ℕ → Option ℕ
depth_of [] = None
depth_of (x ∷ stack) = Some (length (x ∷ stack))

-- the witness holds the stack, which has r frames, if any
pub record Written (stack old new : List ℕ) (r : Option ℕ) : Type 0 where
  pub counted : r ≡ depth_of stack
  pub left : new ≡ witness_left stack old
