-- Tables of bytes: what stands in one for each byte. They state the lemma `marks`.
use Rattle.std.specs.Prelude.{ℕ, ◌<◌, ◌≡◌, List, Bool, true, false, cond, ◌&&◌, eqb, length, get_or}
use Prim.Native.Char.{code}
use Rattle.paper.specs.Text.{bar}

-- what stands in a table for a byte that passes, and for one that does not
abbrev pub mark : Bool → ℕ
mark true = code "1"
mark false = code "0"

-- the same of a stretch that has parts: `|`, which stands between them, has a mark of its own
abbrev pub part_mark : (ℕ → Bool) → ℕ → ℕ
part_mark f b = cond (f b && eqb b bar) (code "2") (mark (f b))

-- the table has the right mark for each byte
pub record Marks (mark_of : ℕ → ℕ) (table : List ℕ) : Type 0 where
  pub size : length table ≡ 256
  pub right : (b : ℕ) → b < 256 → get_or table b 0 ≡ mark_of b
