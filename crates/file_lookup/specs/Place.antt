-- A place in a text: the stretch that it is, and how it lies there.
use Rattle.std.specs.Prelude.{ℕ, ◌+◌, ◌-◌, ◌≤◌, ◌≡◌, List, length, take, drop}
use Rattle.paper.specs.Limits.{text_bytes}
use Rattle.paper.specs.Lookup.{Stretch}
use Rattle.file_lookup.specs.declared.Place.{Place}
use Rattle.file_lookup.specs.Names.{name_bytes}

-- the bytes from its start up to its end
abbrev pub bytes_in : List ℕ → Place → List ℕ
bytes_in t r = take (r.end - r.start) (drop r.start t)

-- the stretch of a text that a place is
abbrev pub stretch_in : List ℕ → Place → Stretch
stretch_in t r = record { start = r.start; bytes = bytes_in t r }

-- it ends where its bytes do: its end is no further off than the text has bytes for
abbrev pub EndsWithBytes : List ℕ → Place → Type 0
EndsWithBytes t r = r.end ≡ r.start + length (bytes_in t r)

-- it lies within the text, is no longer than a name, and starts no further than a text may have bytes
pub record InText (t : List ℕ) (r : Place) : Type 0 where
  pub ordered : r.start ≤ r.end
  pub within : r.end ≤ length t
  pub short : r.end - r.start ≤ name_bytes
  pub low : r.start ≤ text_bytes
