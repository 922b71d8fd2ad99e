-- The fields that a file has, those of a stretch of them, and stretches that follow one another.
use Rattle.std.specs.Prelude.{◌≡◌, ℕ, ◌+◌, ◌-◌, ◌<◌, ◌≤◌, List, length, Option, MatchOption}
use Rattle.std.specs.Iterator.{Count, at_most}
use Rattle.paper.specs.Page.{Field}
use Rattle.paper.specs.Entries.{stretches_from}
use Rattle.file_fields.specs.Fields.{between, next_at, next_key}
use Rattle.file_fields.specs.declared.file.File.{File}
use Rattle.file_fields.specs.declared.stretch.Stretch.{Stretch}
use Rattle.file_fields.specs.declared.stretch.Stretches.{Stretches}

-- all fields of a file
abbrev pub fields_of : File → List Field
fields_of f = between f.text.now f.fields.now 0 (length f.fields.now)

-- those of a stretch
abbrev pub stretch_of : Stretch → List Field
stretch_of s = between s.file.text.now s.file.fields.now s.from s.to

-- a stretch is the part of the file from one number up to another
pub record IsPart (file : File) (from to : ℕ) (s : Stretch) : Type 0 where
  pub of_file : s.file ≡ file
  pub first : s.from ≡ from
  pub last : s.to ≡ to

-- from the first key of a context on, where there is one
abbrev pub KeysOf : Stretch → ℕ → Option Stretch → Type 0
KeysOf s context r = MatchOption r (s.to ≤ next_key s.file.fields.now context s.from (s.to - s.from))
    (λ x. IsPart s.file (next_key s.file.fields.now context s.from (s.to - s.from)) s.to x × (x.from < s.to))

-- stretches of the place among these fields, from its first one on
pub record Begins (file : File) (place from to : ℕ) (r : Stretches) : Type 0 where
  pub of_place : r.place ≡ place
  pub of_file : r.rest.file ≡ file
  pub first : r.rest.from ≡ next_at file.fields.now place from (to - from)
  pub last : r.rest.to ≡ to

-- a stretch is the next of those that are left: it ends where the next field of the place stands
pub record IsNext (s : Stretches) (x : Stretch) (r : Stretches) : Type 0 where
  pub some : s.rest.from < s.rest.to
  pub file : x.file ≡ s.rest.file
  pub from : x.from ≡ s.rest.from
  pub to : x.to ≡ next_at s.rest.file.fields.now s.place (s.rest.from + 1) (s.rest.to - (s.rest.from + 1))
  pub place : r.place ≡ s.place
  pub rest_file : r.rest.file ≡ s.rest.file
  pub rest_from : r.rest.from ≡ x.to
  pub rest_to : r.rest.to ≡ s.rest.to

-- the fields of each of the stretches that are left
abbrev pub left_of : Stretches → List (List Field)
left_of s = stretches_from s.place (stretch_of s.rest)

-- the next of the stretches that are left, or that none is
abbrev pub GivesNext : Stretches → Option Stretch → Stretches → Type 0
GivesNext s x r = MatchOption x (s.rest.from ≡ s.rest.to) (λ x. IsNext s x r)

-- no more are left than fields
abbrev pub left_at_most : Stretches → Count
left_at_most s = at_most (s.rest.to - s.rest.from)
