-- Name lookup (document 01, "Numbers that come back", last paragraph).
use Rattle.std.specs.Prelude.{ℕ, ◌+◌, ◌≡◌, List, [], cond, ltb, length, get_or}
use Rattle.paper.specs.declared.Map.{Map}
use Rattle.paper.specs.declared.Map.TheVariants.{Objects, Subjects}
use Rattle.paper.specs.Listing.{object_name, subject_name}
use Rattle.paper.specs.Page.{Field, no_field, Outcome, fields, fault}
use Rattle.paper.specs.Entries.{fields_at}

-- a stretch of a text: where it begins, and the bytes in it
pub record Stretch : Type 0 where
  pub start : ℕ
  pub bytes : List ℕ

-- "an empty stretch at the front"
unfoldable pub front : Stretch
front = record { start = 0; bytes = [] }

-- "the very stretch of the lent text that holds" a field's value
unfoldable pub stretch_of : Field → Stretch
stretch_of f = record { start = f.start; bytes = f.value }

-- where a map's names stand
abbrev pub names_of : Map → ℕ
names_of Objects = object_name
names_of Subjects = subject_name

-- the name of domain d, where "the number is .. below that map's count"
unfoldable pub name_among : List Field → ℕ → Stretch
name_among names d = cond (ltb d (length names)) (stretch_of (get_or names d no_field)) front

-- "where the reader would refuse the text (2 to 11) .. an empty stretch at the front"
abbrev pub name_in : Map → ℕ → Outcome → Stretch
name_in which d (fields file) = name_among (fields_at (names_of which) file) d
name_in which d (fault number line) = front

-- "the very stretch of the lent text": bytes that lie where the stretch does in what was lent, and so many. Where bytes lie is a block of memory
-- and a place in it
unfoldable pub VeryStretch : ℕ × ℕ → ℕ × ℕ → List ℕ → Stretch → Type 0
VeryStretch lent lies held s = (lies.0 ≡ lent.0) × (lies.1 ≡ lent.1 + s.start) × (held ≡ s.bytes)
