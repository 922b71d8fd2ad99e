-- The element of a list that begins at a place, with its hash.
use Rattle.std.specs.Prelude.{ℕ, ◌-◌, List, Option, Some, None, take, drop}
use Rattle.text_lists.specs.Walk.{element_at}
use Rattle.text_lists.specs.declared.Element.{Element}
use Rattle.file_index.specs.Buckets.{hash_of}
use Rattle.file_words.specs.declared.Hashed.{Hashed}

-- an element of s that begins at a place, with its hash by the multiplier m
abbrev pub hashed_by : ℕ → List ℕ → ℕ → Option Element → Option Hashed
hashed_by m s at (Some e) = Some (record { end = e.end; next = e.next; hash = hash_of m (take (e.end - at) (drop at s)) })
hashed_by m s at None = None

-- the one that begins there
unfoldable pub hashed_at : ℕ → List ℕ → ℕ → Option Hashed
hashed_at m s at = hashed_by m s at (element_at s at)
