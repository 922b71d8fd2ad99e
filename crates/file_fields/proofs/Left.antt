-- A loop over stretches: those that are left are the next one and those that are left behind it.
use mathlib.Core.Path.{◌≡◌, refl, sym}
use mathlib.Core.List.{[], ◌∷◌}
use Prim.Native.Nat.{ℕ, ◌<◌, ◌≤◌}
use native.Mathlib.Omega.{arith}
use lib.ListN.{length}
use Rattle.paper.specs.Listing.{principal}
use Rattle.paper.specs.Entries.{stretches_from, entries_of, line_of_entry}
use Rattle.file_fields.specs.Fields.{line_in, field_of, between}
use Rattle.file_fields.specs.Stretches.{fields_of, stretch_of, left_of, Begins, IsNext}
use Rattle.file_fields.specs.declared.file.File.{File}
use Rattle.file_fields.specs.declared.stretch.Stretch.{Stretch}
use Rattle.file_fields.specs.declared.stretch.Stretches.{Stretches}
use Rattle.file_fields.proofs.Between.{between_more}
use Rattle.file_fields.proofs.Walking.{walk_on, stretches_first, stretches_more, stretches_none}

module _ (file : File) (place from to : ℕ) (s : Stretches) (b : Begins file place from to s) where
  pub left_first : from ≤ to → left_of s ≡ stretches_from place (between file.text.now file.fields.now from to)
  left_first h =
      rw (b.of_place, b.of_file, b.last) (sym (stretches_first file.fields.now place from to s.rest.from file.text.now h b.first))

-- of a file
pub left_entries : (file : File) (s : Stretches) → Begins file principal 0 (length file.fields.now) s → left_of s ≡ entries_of (fields_of file)
unfolding entries_of
left_entries file s b = left_first file principal 0 (length file.fields.now) s b (omega arith)

module _ (s : Stretches) (x : Stretch) (r : Stretches) (n : IsNext s x r) where
  pub left_more : left_of s ≡ stretch_of x ∷ left_of r
  left_more =
      rw (n.file, n.from, n.place, n.rest_file, n.rest_from, n.rest_to)
      (stretches_more s.rest.file.fields.now s.place s.rest.from s.rest.to x.to n.to s.rest.file.text.now (record { within = s.rest.ordered; stands = s.stands }) n.some)

  pub next_some : x.from < x.to
  next_some = omega (arith, n.from, n.to, walk_on s.rest.file.fields.now s.place s.rest.from s.rest.to x.to n.to)

  pub next_entry_line : line_of_entry (stretch_of x) ≡ line_in x.file.fields.now x.from
  unfolding line_of_entry field_of
  next_entry_line = rw (between_more x.file.text.now x.file.fields.now x.from x.to next_some) refl

pub left_none : (s : Stretches) → s.rest.from ≡ s.rest.to → left_of s ≡ []
left_none s e = stretches_none s.rest.file.fields.now s.place s.rest.from s.rest.to s.rest.file.text.now (omega arith)
