-- The bytes of one part of a scalar, and the way through them.
use Rattle.std.specs.Prelude.{ℕ, suc, List, [], ◌∷◌, Bool, cond, not, ◌&&◌, eqb}
use Rattle.paper.specs.Text.{bar}

-- a byte of one part of a stretch whose bytes pass: `|` stands between parts
abbrev pub part_of : (ℕ → Bool) → ℕ → Bool
part_of f b = f b && not (eqb b bar)

-- how many bytes stand before the first that does not pass: all of them, where each does
unfoldable pub run : (ℕ → Bool) → List ℕ → ℕ
run f [] = 0
run f (b ∷ bs) = cond (f b) (suc (run f bs)) 0
