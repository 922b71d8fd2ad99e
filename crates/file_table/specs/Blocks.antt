-- The words of a file's entries and descriptors, one behind the other, and what a writer of so many of them leaves.
use Rattle.std.specs.Prelude.{ℕ, ◌*◌, ◌≡◌, length}
use mathlib.Core.List.{List, ◌++◌, map, flat_map}
use Rattle.paper.specs.Limits.{most_members}
use Rattle.paper.specs.Listing.{object_members, subject_members, can_read, can_write}
use Rattle.paper.specs.Page.{Field}
use Rattle.paper.specs.Entries.{fields_at, entries_of}
use Rattle.paper.specs.Policy.{descriptor_of, access_of, entry_of, member_domains}
use Rattle.paper.specs.Table.{entries_size, descriptors_size, padded, entry_words, descriptor_words}

-- of entries
unfoldable pub entry_blocks : List Field → List (List Field) → List ℕ
entry_blocks file entries = flat_map entry_words (map (entry_of file) entries)

-- of the descriptors of items
unfoldable pub item_blocks : List Field → ℕ → List (List Field) → List ℕ
item_blocks file access items = flat_map descriptor_words (map (descriptor_of file access) items)

-- of the descriptors that an entry's `can_read` or `can_write` is
unfoldable pub access_blocks : List Field → ℕ → List Field → List ℕ
access_blocks file access entry = flat_map descriptor_words (access_of file access entry)

-- of both
unfoldable pub own_blocks : List Field → List Field → List ℕ
own_blocks file entry = access_blocks file can_read entry ++ access_blocks file can_write entry

-- of all descriptors of entries
unfoldable pub descriptor_blocks : List Field → List (List Field) → List ℕ
descriptor_blocks file entries = flat_map (own_blocks file) entries

-- the members of both maps, in so many words: the domain of each object, then of each function
abbrev pub maps_size : ℕ
maps_size = 2048

unfoldable pub map_blocks : List Field → List ℕ
map_blocks file = padded most_members (member_domains 0 (fields_at object_members file)) ++ padded most_members (member_domains 0 (fields_at subject_members file))

-- the privileges, in so many words: the entries, then their descriptors
abbrev pub privileges_size : ℕ
privileges_size = 14304

unfoldable pub privilege_blocks : List Field → List ℕ
privilege_blocks file = padded entries_size (entry_blocks file (entries_of file)) ++ padded descriptors_size (descriptor_blocks file (entries_of file))

-- the answer r is how many blocks of a size there are; their words stand where zeros stood, and zeros behind them
pub record Filled (size count : ℕ) (words old new : List ℕ) (r : ℕ) : Type 0 where
  pub counted : r ≡ count
  pub long : size * r ≡ length words
  pub holds : new ≡ padded (length old) words
