-- The words of a whole file's names.
use Rattle.std.specs.Prelude.{length}
use Rattle.file_fields.specs.Stretches.{fields_of}
use Rattle.file_fields.specs.declared.file.File.{File}
use Rattle.file_words.specs.Words.{numbers_of, Worded}
use Rattle.file_words.specs.declared.Words.{Words}

-- the words are those that the file gives the names of its fields
abbrev pub WordedFile : File → Words → Type 0
WordedFile file words = Worded (numbers_of (fields_of file)) file.text.now file.fields.now (length file.fields.now) words.words.now words.starts.now
