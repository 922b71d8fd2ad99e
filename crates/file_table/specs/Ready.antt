-- What the writers of entries and descriptors ask of a file.
use Rattle.std.specs.Prelude.{ℕ, ◌≤◌, ◌≡◌, List, [], Bool, true, false, not, length}
use Rattle.paper.specs.Common.{all_of}
use Rattle.paper.specs.Limits.{most_domains, most_members, most_entries, most_descriptors}
use Rattle.paper.specs.Listing.{object_name, subject_name, subject_members}
use Rattle.paper.specs.Page.{Field}
use Rattle.paper.specs.Entries.{entries_of}
use Rattle.paper.specs.Rules.{descriptors_in, long_pattern, domains_at, identifiers_at, repeats}
use Rattle.laws_file.specs.Accepted.{total}
use Rattle.file_fields.specs.Fields.{between}
use Rattle.file_fields.specs.declared.file.FieldAt.{FieldAt}
use Rattle.file_fields.specs.declared.file.File.{File}
use Rattle.file_index.specs.Maps.{Mapped}
use Rattle.file_words.specs.Words.{numbers_of, Worded}
use Rattle.file_words.specs.declared.Words.{Words}

-- a pattern has no more elements than it may have
unfoldable pub fits : Field → Bool
fits f = not (long_pattern f)

-- its fields fit, and the words of their names are known
pub record Ready (t : List ℕ) (list : List FieldAt) (n : ℕ) (words starts : List ℕ) : Type 0 where
  pub fit : all_of fits (between t list 0 n) ≡ true
  pub worded : Worded (numbers_of (between t list 0 n)) t list n words starts

-- those of a file
abbrev pub ReadyFile : File → Words → Type 0
ReadyFile f w = Ready f.text.now f.fields.now (length f.fields.now) w.words.now w.starts.now

-- so many object domains, which differ
pub record OfObjects (objects : ℕ) (file : List Field) : Type 0 where
  pub counted : objects ≡ length (domains_at object_name file)
  pub few : objects ≤ most_domains
  pub apart : repeats [] (domains_at object_name file) ≡ false

-- an index of the subject domains, which differ
pub record OfSubjects (t ix : List ℕ) (subjects : ℕ) (file : List Field) : Type 0 where
  pub index : Mapped t ix subjects most_domains (domains_at subject_name file)
  pub apart : repeats [] (domains_at subject_name file) ≡ false

-- so many functions
pub record OfFunctions (functions : ℕ) (file : List Field) : Type 0 where
  pub counted : functions ≡ length (identifiers_at subject_members file)
  pub few : functions ≤ most_members

-- its entries and descriptors are no more than the limits
pub record Bounded (file : List Field) : Type 0 where
  pub entries : length (entries_of file) ≤ most_entries
  pub descriptors : total descriptors_in (entries_of file) ≤ most_descriptors
