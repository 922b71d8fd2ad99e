-- What may be written into the words lent, and how many words that can be.
use Rattle.std.specs.Prelude.{ℕ, ◌+◌, ◌*◌, ◌≤◌, ◌≡◌, List, Bool, true, leb, length, get_or}
use Rattle.paper.specs.Common.{all_of}
use Rattle.paper.specs.Limits.{text_bytes}
use Rattle.paper.specs.Page.{Field, no_field}
use Rattle.file_fields.specs.Fields.{field_at, between}
use Rattle.file_fields.specs.declared.file.File.{File}
use Rattle.file_fields.specs.declared.file.FieldAt.{FieldAt}
use Rattle.file_things.specs.Things.{entry, thing_size, name_thing, things_in}

-- a line or a place that a text of at most 65,536 bytes can have
unfoldable pub is_small : ℕ → Bool
is_small w = leb w text_bytes

-- every word is such a number
abbrev pub AllSmall : List ℕ → Type 0
AllSmall words = all_of is_small words ≡ true

-- there is room for the words, and each is such a number
pub record Writable (words out : List ℕ) : Type 0 where
  pub room : length words ≤ length out
  pub small : AllSmall words

-- the field behind field i, of n
abbrev pub behind_in : List ℕ → List FieldAt → ℕ → ℕ → Field
behind_in t list i n = get_or (between t list (i + 1) n) 0 no_field

-- the thing of the entry that begins with field i of a file
abbrev pub entry_at : File → ℕ → List ℕ
entry_at f i = name_thing entry (field_at f.text.now f.fields.now i) (behind_in f.text.now f.fields.now i (length f.fields.now))

-- the things of field i of a file
abbrev pub things_at : File → ℕ → List ℕ
things_at f i = things_in (field_at f.text.now f.fields.now i) (behind_in f.text.now f.fields.now i (length f.fields.now))

-- the words of one field: a value of a text has at most one element more than bytes
abbrev pub most_words : ℕ
most_words = thing_size * (text_bytes + 1)
