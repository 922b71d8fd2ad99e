-- Stretches of fields put in a loop, each as its text: what is there and the texts of those that are left make the whole.
use mathlib.Core.Path.{◌≡◌, refl, sym, ap}
use mathlib.Core.List.{List, flat_map}
use Prim.Native.Nat.{ℕ, ◌+◌}
use Rattle.paper.specs.Page.{Field}
use Rattle.paper.specs.Entries.{items_of, entries_of}
use Rattle.paper.specs.Filled.{item_text, entry_text}
use Rattle.paper.specs.Listing.{principal}
use lib.ListN.{length}
use Rattle.file_fields.specs.Stretches.{fields_of, stretch_of, left_of, Begins, IsNext}
use Rattle.file_fields.specs.declared.file.File.{File}
use Rattle.file_fields.specs.declared.stretch.Stretch.{Stretch}
use Rattle.file_fields.specs.declared.stretch.Stretches.{Stretches}
use Rattle.file_fields.proofs.Left.{left_first, left_entries, left_more, left_none}
use Rattle.filled_lines.specs.Sinks.{SinkLaws}
use Rattle.filled_lines.proofs.Sinks.{Putting, begin, finish, room, more}

-- of `whole`, all but the texts of the stretches that are left is there
abbrev pub Walking : {S : Type 0} → (S → List ℕ → Type 0) → (S → List ℕ → S → Type 0) → (List Field → List ℕ) → List ℕ → S → Stretches → S → Type 0
Walking Fits Put text whole s it m = Putting Fits Put whole (flat_map text (left_of it)) s m

module _ {S : Type 0} {Fits : S → List ℕ → Type 0} {Put : S → List ℕ → S → Type 0} (laws : SinkLaws Fits Put) where
  pub items_begin : (access : ℕ) (fields : Stretch) (it : Stretches) (s : S) → Begins fields.file (access + 1) fields.from fields.to it
      → Fits s (flat_map (item_text access) (items_of access (stretch_of fields)))
      → Walking Fits Put (item_text access) (flat_map (item_text access) (items_of access (stretch_of fields))) s it s
  unfolding items_of
  items_begin access fields it s b h =
      begin laws _ _ s (ap (flat_map (item_text access)) (sym (left_first fields.file (access + 1) fields.from fields.to it b fields.ordered))) h

  pub entries_begin : (file : File) (it : Stretches) (s : S) → Begins file principal 0 (length file.fields.now) it → Fits s (flat_map entry_text (entries_of (fields_of file)))
      → Walking Fits Put entry_text (flat_map entry_text (entries_of (fields_of file))) s it s
  entries_begin file it s b h = begin laws _ _ s (ap (flat_map entry_text) (sym (left_entries file it b))) h

  module _ (text : List Field → List ℕ) (whole : List ℕ) (s : S) (it : Stretches) (m : S) (w : Walking Fits Put text whole s it m) where
    pub walk_done : it.rest.from ≡ it.rest.to → Put s whole m
    unfolding flat_map
    walk_done e = finish laws w (rw (left_none it e) refl)

    module _ (x : Stretch) (r : Stretches) (n : IsNext it x r) where
      pub walk_room : Fits m (text (stretch_of x))
      unfolding flat_map
      walk_room = room laws w (text (stretch_of x)) (flat_map text (left_of r)) (rw (left_more it x r n) refl)

      pub walk_again : (e : S) → Put m (text (stretch_of x)) e → Walking Fits Put text whole s r e
      unfolding flat_map
      walk_again e v = more laws w (text (stretch_of x)) (flat_map text (left_of r)) (rw (left_more it x r n) refl) e v
