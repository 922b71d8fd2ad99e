-- The entries that were passed, each by its number.
use Rattle.std.specs.Prelude.{ℕ, List}
use Rattle.paper.specs.Page.{Field}
use Rattle.file_entries.specs.Principals.{entry_in, entries_below}
use Rattle.file_entries.specs.declared.Passed.{Passed}

-- entry k of those that were passed
abbrev pub passed_entry : Passed → ℕ → List Field
passed_entry p k = entry_in p.file.text.now p.file.fields.now p.bounds.now k

-- those before it, the last first
abbrev pub passed_before : Passed → ℕ → List (List Field)
passed_before p k = entries_below p.file.text.now p.file.fields.now p.bounds.now k
