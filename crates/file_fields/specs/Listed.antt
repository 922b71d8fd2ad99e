-- What the walk over a text says of the list that it wrote.
use Rattle.std.specs.Prelude.{ℕ, ◌≤◌, List, Result, Ok, Err, length, take}
use Rattle.paper.specs.Page.{Outcome, fields, fault}
use Rattle.paper.specs.declared.Fault.{Fault}
use Rattle.file_fields.specs.Fields.{between, bytes_to}
use Rattle.file_fields.specs.declared.file.FieldAt.{FieldAt}

-- a text of at most 65,536 bytes has at most so many fields, each being a line with a key
abbrev pub most_fields : ℕ
most_fields = 8192

-- the fields that were listed, or the refusal
abbrev pub found_in : List ℕ → List FieldAt → Result ℕ Fault → Outcome
found_in t list (Ok n) = fields (between t (take n list) 0 (length (take n list)))
found_in t list (Err f) = fault f.number f.line

-- the list has so many fields, and their values have together no more bytes than the text
abbrev pub Holds : List ℕ → List FieldAt → Result ℕ Fault → Type 0
Holds t list (Ok n) = (n ≤ length list) × (bytes_to (take n list) (length (take n list)) ≤ length t)
Holds t list (Err f) = Unit
