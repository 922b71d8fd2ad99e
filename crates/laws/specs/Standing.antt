-- Every byte of a text may stand where it does.
use Rattle.std.specs.Prelude.{ℕ, List, [], ◌∷◌, Bool, true, ◌&&◌}
use Rattle.paper.specs.Text.{next_byte, may_stand}

-- each byte before the one behind it
unfoldable pub all_stand : List ℕ → Bool
all_stand [] = true
all_stand (b ∷ bs) = may_stand b (next_byte bs) && all_stand bs
