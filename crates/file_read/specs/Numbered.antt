-- What 8, 10, 11 and the table stand on.
use Rattle.std.specs.Prelude.{◌≤◌, ◌≡◌, length}
use Rattle.paper.specs.Text.{no_line}
use Rattle.paper.specs.Rules.{over_limit}
use Rattle.file_fields.specs.Listed.{most_fields}
use Rattle.file_fields.specs.Stretches.{fields_of}
use Rattle.file_fields.specs.declared.file.File.{File}
use Rattle.file_index.specs.declared.maps.MapNames.{MapNames}
use Rattle.file_words.specs.Files.{WordedFile}
use Rattle.file_words.specs.declared.Words.{Words}
use Rattle.file_names.specs.Naming.{SoundFile}
use Rattle.file_table.specs.Ready.{OfObjects, OfSubjects, OfFunctions}
use Rattle.file_read.specs.Readable.{Readable}

-- a file within the limits whose names are numbered
pub record Numbered (file : File) (maps : MapNames) (words : Words) : Type 0 where
  pub sound : SoundFile file
  pub few : length file.fields.now ≤ most_fields
  pub readable : Readable (fields_of file)
  pub within : over_limit (fields_of file) ≡ no_line
  pub of_objects : OfObjects maps.objects.count (fields_of file)
  pub of_subjects : OfSubjects file.text.now maps.subjects.index.now maps.subjects.count (fields_of file)
  pub of_functions : OfFunctions maps.functions.count (fields_of file)
  pub worded : WordedFile file words
