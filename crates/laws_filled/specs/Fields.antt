-- The fields that the filled text has (document 01, "A file, filled out"), each with the line and the start that writing gives it.
use Rattle.std.specs.Prelude.{ℕ, ◌+◌, cond, length}
use mathlib.Core.List.{List, [], ◌∷◌, ◌++◌, flat_map}
use Rattle.paper.specs.Common.{is_empty}
use Rattle.paper.specs.Text.{no_line}
use Rattle.paper.specs.Listing.{key_at, principal, subject_of_entry, execution_context, can_call, can_return, can_read, can_write, call_context_in, uid_in}
use Rattle.paper.specs.Listing.{gid_in, namespace_in, objects_in, object_context_in}
use Rattle.paper.specs.Page.{Field}
use Rattle.paper.specs.Entries.{value_at, up_to_next, entries_of, items_of}
use Rattle.paper.specs.Filled.{written_line}

-- a field that is to be written: it has no line yet
unfoldable pub unwritten : ℕ → List ℕ → Field
unwritten place v = record { line = no_line; place = place; start = 0; value = v }

-- the text of fields: a line for each
unfoldable pub text_of : List Field → List ℕ
text_of fs = flat_map written_line fs

-- where the value starts on a line that begins at a place of the text: behind the key, and behind a space where there is a value
unfoldable pub start_of : ℕ → Field → ℕ
start_of at f = at + length (key_at f.place) + cond (is_empty f.value) 0 1

-- the fields as they stand in their text, the first on line n, which begins at a place
unfoldable pub numbered : ℕ → ℕ → List Field → List Field
numbered n at [] = []
numbered n at (f ∷ fs) =
    record { line = n; place = f.place; start = start_of at f; value = f.value } ∷ numbered (n + 1) (at + length (written_line f)) fs

-- what was written at a place of an entry, or its default
unfoldable pub value_field : ℕ → List Field → Field
value_field place fs = unwritten place (value_at place fs)

-- "contexts always get three keys", and `namespace` after `gid` (document 02 g)
unfoldable pub context_fields : ℕ → List Field → List Field
context_fields place fs =
    unwritten place []
    ∷ value_field (call_context_in place) fs
    ∷ value_field (uid_in place) fs
    ∷ value_field (gid_in place) fs
    ∷ value_field (namespace_in place) fs
    ∷ []

-- an item: its `objects` and its context
unfoldable pub item_fields : ℕ → List Field → List Field
item_fields access item = value_field (objects_in access) item ∷ context_fields (object_context_in access) item

-- `can_read` or `can_write`: on one line, or with its items
unfoldable pub access_fields : ℕ → List Field → List Field
access_fields access entry =
    cond (is_empty (items_of access entry))
    (value_field access entry ∷ [])
    (unwritten access [] ∷ flat_map (item_fields access) (items_of access entry))

-- the fields of an entry behind its `principal`
unfoldable pub entry_rest : List Field → List Field
entry_rest entry =
    value_field subject_of_entry entry
    ∷ (context_fields execution_context entry
    ++ (value_field can_call entry ∷ value_field can_return entry ∷ (access_fields can_read entry ++ access_fields can_write entry)))

-- an entry with every default written
unfoldable pub entry_fields : List Field → List Field
entry_fields entry = unwritten principal [] ∷ entry_rest entry

-- a file with every default written: the maps as they were written, then every entry
unfoldable pub written : List Field → List Field
written file = up_to_next principal file ++ flat_map entry_fields (entries_of file)

-- the fields of the filled text
unfoldable pub filled_fields : List Field → List Field
filled_fields file = numbered 1 0 (written file)
