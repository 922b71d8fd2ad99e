-- The maps of a file are indexed, and the words of its fields' names are those that the maps give them.
use Rattle.std.specs.Prelude.{◌≡◌, ◌≤◌, length}
use Rattle.paper.specs.Limits.{most_domains, most_members}
use Rattle.paper.specs.Listing.{object_name, subject_name, subject_members}
use Rattle.paper.specs.Rules.{domains_at, identifiers_at}
use Rattle.file_fields.specs.Stretches.{fields_of}
use Rattle.file_fields.specs.declared.file.File.{File}
use Rattle.file_index.specs.Maps.{Mapped}
use Rattle.file_index.specs.declared.maps.MapNames.{MapNames}
use Rattle.file_words.specs.Words.{numbers_of, Worded}
use Rattle.file_words.specs.declared.Words.{Words}

-- as far as the rules and the table look names up: objects are only counted
pub record NumberedBy (file : File) (maps : MapNames) (words : Words) : Type 0 where
  pub of_subjects : Mapped file.text.now maps.subjects.index.now maps.subjects.count most_domains (domains_at subject_name (fields_of file))
  pub of_objects : maps.objects.count ≡ length (domains_at object_name (fields_of file))
  pub few_functions : length (identifiers_at subject_members (fields_of file)) ≤ most_members
  pub worded : Worded (numbers_of (fields_of file)) file.text.now file.fields.now (length file.fields.now) words.words.now words.starts.now
