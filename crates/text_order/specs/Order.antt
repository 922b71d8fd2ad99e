-- The order of the names in a text by their bytes, and a list of places whose names ascend.
use Rattle.std.specs.Prelude.{ℕ, ◌+◌, ◌<◌, ◌≡◌, List, get_or}
use Rattle.paper.specs.Text.{comma}

-- the name that begins at one place is below the name that begins at another: their bytes are the same up to one that is lower.
-- A comma ends a name, and behind the text one may be thought to stand
pub data Under (s : List ℕ) : ℕ → ℕ → Type 0 where
  here : {a b : ℕ} → get_or s a comma < get_or s b comma → Under s a b
  later : {a b : ℕ} → get_or s a comma ≡ get_or s b comma → (get_or s a comma ≡ comma → ⊥) → Under s (a + 1) (b + 1) → Under s a b

-- the first m places are of names that ascend
abbrev pub Ascends : List ℕ → List ℕ → ℕ → Type 0
Ascends s places m = (j : ℕ) → j + 1 < m → Under s (get_or places j 0) (get_or places (j + 1) 0)

-- a place is one of the first m
pub record OneOf (places : List ℕ) (m at : ℕ) : Type 0 where
  pub rank : ℕ
  pub below : rank < m
  pub stands : get_or places rank 0 ≡ at
