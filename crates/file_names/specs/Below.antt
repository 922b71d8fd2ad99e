-- Words that are all below a limit: where it is a map's count, the names have their numbers in that map.
use Rattle.std.specs.Prelude.{ℕ, List, Bool, ltb}
use Rattle.paper.specs.Common.{all_of}

-- every word is
unfoldable pub all_below : ℕ → List ℕ → Bool
all_below limit words = all_of (λ w. ltb w limit) words
