-- What fields name, and what an index knows once their names are in.
use Rattle.std.specs.Prelude.{ℕ, ◌≤◌, ◌≡◌, true, false, cond, length, Option, Some, None}
use mathlib.Core.List.{List, [], ◌∷◌, ◌++◌, flat_map}
use Rattle.paper.specs.Common.{all_of}
use Rattle.paper.specs.Limits.{text_bytes}
use Rattle.paper.specs.Page.{Field}
use Rattle.paper.specs.Entries.{is_at_one}
use Rattle.paper.specs.Rules.{repeats, repeated, members_named}
use Rattle.laws_page.specs.Right.{is_numbered}
use Rattle.file_fields.specs.Fields.{between, bytes_to, well_spaced}
use Rattle.file_fields.specs.declared.file.FieldAt.{FieldAt}
use Rattle.file_fields.specs.declared.file.File.{File}
use Rattle.file_index.specs.Buckets.{Index}
use Rattle.file_names.specs.declared.indexes.Naming.{Naming}
use Rattle.file_names.specs.declared.indexes.Naming.TheVariants.{Domains, Members}
use Rattle.file_names.specs.declared.indexes.Indexed.{Indexed}

-- the list has n fields of a text that is not too long: each has a line, and its lists are spaced as lists are;
-- their values have together no more bytes than the text
pub record Sound (t : List ℕ) (list : List FieldAt) (n : ℕ) : Type 0 where
  pub spaced : all_of well_spaced (between t list 0 n) ≡ true
  pub numbered : all_of is_numbered (between t list 0 n) ≡ true
  pub small : length t ≤ text_bytes
  pub fits : bytes_to list n ≤ length t

-- those of a file are
abbrev pub SoundFile : File → Type 0
SoundFile f = Sound f.text.now f.fields.now (length f.fields.now)

-- the domain that a field names, where it stands at one of two places
unfoldable pub named_at : ℕ → ℕ → Field → List (List ℕ)
named_at one other f = cond (is_at_one (one ∷ other ∷ []) f) (f.value ∷ []) []

-- what a field names
abbrev pub named : Naming → Field → List (List ℕ)
named (Domains one other) = named_at one other
named (Members place) = members_named place

-- what the fields before number i name
abbrev pub names_to : (Field → List (List ℕ)) → List ℕ → List FieldAt → ℕ → List (List ℕ)
names_to names t list i = flat_map names (between t list 0 i)

-- the fields from number `end` on name nothing
pub record NamesEnd (names : Field → List (List ℕ)) (t : List ℕ) (list : List FieldAt) (n end : ℕ) : Type 0 where
  pub within : end ≤ n
  pub rest : flat_map names (between t list end n) ≡ []

-- names put into an index of those seen: they are in, or one of them was there already
unfoldable pub EnteredAs : List ℕ → List ℕ → List (List ℕ) → List (List ℕ) → Option ℕ → Type 0
EnteredAs t ix seen names (Some n) = (repeats seen names ≡ false) × Index t ix n (seen ++ names)
EnteredAs t ix seen names None = repeats seen names ≡ true

-- what the fields name put into an index: all of it, or up to the line of a name that was there already
pub record IndexedAs (names : Field → List (List ℕ)) (t ix : List ℕ) (fs : List Field) (r : Indexed) : Type 0 where
  pub line : r.twice ≡ repeated names [] fs
  pub index : r.twice ≡ 0 → Index t ix r.names (flat_map names fs)
  pub few : r.names ≤ length (flat_map names fs)
