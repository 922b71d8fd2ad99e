-- What name lookup says of a file: which numbers are a domain's, and what it answers of them.
use Rattle.std.specs.Prelude.{ℕ, ◌+◌, ◌≤◌, ◌≡◌, List, true, length, take, drop}
use Rattle.paper.specs.declared.Map.{Map}
use Rattle.paper.specs.Limits.{text_bytes}
use Rattle.paper.specs.Scalars.{is_domain_name}
use Rattle.paper.specs.Page.{Field, Outcome, fields, fault}
use Rattle.paper.specs.Entries.{fields_at}
use Rattle.paper.specs.Lookup.{Stretch, names_of}

-- "that map's count": how many domains a map of a file has
abbrev pub count_of : Map → List Field → ℕ
count_of which fs = length (fields_at (names_of which) fs)

-- "where the reader would refuse the text (2 to 11), or the number is not below that map's count"
abbrev pub NoSuchName : Map → ℕ → Outcome → Type 0
NoSuchName which d (fields fs) = count_of which fs ≤ d
NoSuchName which d (fault number line) = Unit

-- a domain name that stands in the text: its bytes are those of the text from its start on
pub record NameStands (t : List ℕ) (s : Stretch) : Type 0 where
  pub name : is_domain_name s.bytes ≡ true
  pub very : s.bytes ≡ take (length s.bytes) (drop s.start t)
  pub inside : s.start + length s.bytes ≤ length t

-- "1 to 64 bytes": no name has more
abbrev pub name_bytes : ℕ
name_bytes = 64

-- a stretch that lies within the text, is no longer than a name, and starts no further than a text may have bytes
pub record Bounded (t : List ℕ) (s : Stretch) : Type 0 where
  pub inside : s.start + length s.bytes ≤ length t
  pub short : length s.bytes ≤ name_bytes
  pub low : s.start ≤ text_bytes
