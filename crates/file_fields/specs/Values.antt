-- What stands in a list value, as the code takes it apart.
use Rattle.std.specs.Prelude.{ℕ, Bool, List, [], cond, ◌==◌}
use Rattle.paper.specs.Text.{comma}
use Rattle.paper.specs.Lists.{bracketed, inside}

-- what stands between the brackets of a list; of any other value, nothing
unfoldable pub inside_of : List ℕ → List ℕ
inside_of v = cond (bracketed v) (inside v) []

-- a byte is a comma
abbrev pub is_comma : ℕ → Bool
is_comma b = b == comma

-- so many bytes are looked at for commas at a time
abbrev pub block : ℕ
block = 32768
