-- The texts of a written line, an entry and the whole, part by part: room for a text is room for its parts, and it is put as they are.
use mathlib.Core.Path.{◌≡◌, refl}
use mathlib.Core.List.{List, [], ◌++◌, flat_map}
use Prim.Native.Nat.{ℕ, ◌-◌, ◌≤◌}
use native.Mathlib.Omega.{arith}
use lib.ListN.{length}
use borrow.Author.Tests.{eq-eqb, ne_eqb}
use Rattle.paper.specs.Listing.{principal, subject_of_entry, execution_context, can_call, can_return, can_read, can_write}
use Rattle.paper.specs.Page.{Field}
use Rattle.paper.specs.Entries.{entries_of}
use Rattle.paper.specs.Filled.{key_line, bare_line, written_line, value_line, context_text, access_text, entry_text, filled_text}
use Rattle.file_fields.specs.Fields.{value_of, field_of, between, next_at}
use Rattle.file_fields.specs.Stretches.{stretch_of, fields_of, IsPart}
use Rattle.file_fields.specs.declared.file.FieldAt.{FieldAt}
use Rattle.file_fields.specs.declared.file.File.{File}
use Rattle.file_fields.specs.declared.stretch.Stretch.{Stretch}
use Rattle.file_fields.proofs.Between.{next_within, before_next}

-- a line as it was written
module _ (t : List ℕ) (f : FieldAt) where
  bare_is : length (value_of t f) ≡ 0 → written_line (field_of t f) ≡ bare_line f.place
  unfolding written_line field_of
  bare_is z = rw (eq-eqb (length (value_of t f)) 0 z) refl

  key_is : (length (value_of t f) ≡ 0 → ⊥) → written_line (field_of t f) ≡ key_line f.place (value_of t f)
  unfolding written_line field_of
  key_is z = rw (ne_eqb (length (value_of t f)) 0 z) refl

-- the maps are the fields before the first `principal`
pub maps_within : (list : List FieldAt) (n : ℕ) → next_at list principal 0 (n - 0) ≤ n
maps_within list n = next_within [] list principal 0 n (omega arith)

module _ (file : File) (maps : Stretch) (p : IsPart file 0 (next_at file.fields.now principal 0 (length file.fields.now - 0)) maps) where
  maps_are : stretch_of maps ≡ between file.text.now file.fields.now 0 (next_at file.fields.now principal 0 (length file.fields.now - 0))
  maps_are = rw (p.of_file, p.first, p.last) refl

  whole_is : filled_text (fields_of file) ≡ flat_map written_line (stretch_of maps) ++ flat_map entry_text (entries_of (fields_of file))
  unfolding filled_text
  whole_is = rw (before_next file.text.now file.fields.now principal 0 (length file.fields.now), maps_are) refl

module _ {S : Type 0} (Fits : S → List ℕ → Type 0) (s : S) where
  pub entry_fits : (fs : List Field) → Fits s (entry_text fs)
      → Fits s (bare_line principal ++ (value_line subject_of_entry fs ++ (context_text execution_context fs ++ (value_line can_call fs
      ++ (value_line can_return fs ++ (access_text can_read fs ++ access_text can_write fs))))))
  unfolding entry_text
  entry_fits fs h = h

  pub whole_fits : (file : File) (maps : Stretch) → IsPart file 0 (next_at file.fields.now principal 0 (length file.fields.now - 0)) maps → Fits s (filled_text (fields_of file))
      → Fits s (flat_map written_line (stretch_of maps) ++ flat_map entry_text (entries_of (fields_of file)))
  whole_fits file maps p h = rw (whole_is file maps p) at h

  module _ (t : List ℕ) (f : FieldAt) where
    pub bare_fits : length (value_of t f) ≡ 0 → Fits s (written_line (field_of t f)) → Fits s (bare_line f.place)
    bare_fits z h = rw (bare_is t f z) at h

    pub key_fits : (length (value_of t f) ≡ 0 → ⊥) → Fits s (written_line (field_of t f)) → Fits s (key_line f.place (value_of t f))
    key_fits z h = rw (key_is t f z) at h

module _ {S : Type 0} (Put : S → List ℕ → S → Type 0) (s m : S) where
  pub entry_put : (fs : List Field)
      → Put s (bare_line principal ++ (value_line subject_of_entry fs ++ (context_text execution_context fs ++ (value_line can_call fs
      ++ (value_line can_return fs ++ (access_text can_read fs ++ access_text can_write fs)))))) m
      → Put s (entry_text fs) m
  unfolding entry_text
  entry_put fs h = h

  pub whole_put : (file : File) (maps : Stretch) → IsPart file 0 (next_at file.fields.now principal 0 (length file.fields.now - 0)) maps
      → Put s (flat_map written_line (stretch_of maps) ++ flat_map entry_text (entries_of (fields_of file))) m → Put s (filled_text (fields_of file)) m
  whole_put file maps p h = rw (whole_is file maps p) h

  module _ (t : List ℕ) (f : FieldAt) where
    pub bare_put : length (value_of t f) ≡ 0 → Put s (bare_line f.place) m → Put s (written_line (field_of t f)) m
    bare_put z h = rw (bare_is t f z) h

    pub key_put : (length (value_of t f) ≡ 0 → ⊥) → Put s (key_line f.place (value_of t f)) m → Put s (written_line (field_of t f)) m
    key_put z h = rw (key_is t f z) h
