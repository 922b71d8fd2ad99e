-- The filled text (document 01, "A file, filled out": "Skipped lines vanish; all else keeps its order; contexts always get three keys;
-- omitted `can_` fields become `all`").
use Rattle.std.specs.Prelude.{ℕ, cond}
use mathlib.Core.List.{List, [], ◌∷◌, ◌++◌, flat_map}
use Rattle.paper.specs.Common.{is_empty}
use Rattle.paper.specs.Text.{line_feed, space}
use Rattle.paper.specs.Listing.{key_at, principal, subject_of_entry, execution_context, can_call, can_return, can_read, can_write, call_context_in, uid_in, gid_in, namespace_in, objects_in, object_context_in}
use Rattle.paper.specs.Page.{Field}
use Rattle.paper.specs.Entries.{value_at, up_to_next, entries_of, items_of}

-- a line with a value, and one without
unfoldable pub key_line : ℕ → List ℕ → List ℕ
key_line place v = key_at place ++ (space ∷ (v ++ (line_feed ∷ [])))

-- a line that ends at the colon
unfoldable pub bare_line : ℕ → List ℕ
bare_line place = key_at place ++ (line_feed ∷ [])

-- a line of the maps, as it was written
unfoldable pub written_line : Field → List ℕ
written_line f = cond (is_empty f.value) (bare_line f.place) (key_line f.place f.value)

-- the line of a place in an entry: what was written, or its default
unfoldable pub value_line : ℕ → List Field → List ℕ
value_line place fs = key_line place (value_at place fs)

-- "contexts always get three keys", and `namespace` after `gid` (document 02 g)
unfoldable pub context_text : ℕ → List Field → List ℕ
context_text place fs =
    bare_line place
    ++ (value_line (call_context_in place) fs
    ++ (value_line (uid_in place) fs ++ (value_line (gid_in place) fs ++ value_line (namespace_in place) fs)))

-- an item, "each with `objects`" and its context
unfoldable pub item_text : ℕ → List Field → List ℕ
item_text access item = value_line (objects_in access) item ++ context_text (object_context_in access) item

-- `can_read` or `can_write`: `all` and `[]` on one line, or the items below it
unfoldable pub access_text : ℕ → List Field → List ℕ
access_text access entry =
    cond (is_empty (items_of access entry))
    (value_line access entry)
    (bare_line access ++ flat_map (item_text access) (items_of access entry))

-- an entry: "all else keeps its order", and "omitted `can_` fields become `all`"
unfoldable pub entry_text : List Field → List ℕ
entry_text entry =
    bare_line principal
    ++ (value_line subject_of_entry entry
    ++ (context_text execution_context entry
    ++ (value_line can_call entry
    ++ (value_line can_return entry
    ++ (access_text can_read entry ++ access_text can_write entry)))))

-- the whole: the maps as they were written, then every entry
unfoldable pub filled_text : List Field → List ℕ
filled_text file = flat_map written_line (up_to_next principal file) ++ flat_map entry_text (entries_of file)
