-- The descriptors written so far, item by item, and the next one behind them.
use mathlib.Core.Path.{◌≡◌, refl, ap}
use mathlib.Core.List.{List, [], ◌∷◌, ◌++◌, flat_map}
use Prim.Native.Nat.{ℕ, ◌+◌, ◌-◌, ◌*◌, ◌^◌, ◌<◌, ◌≤◌}
use native.Mathlib.Omega.{arith}
use mir.Syntax.{w64}
use mir.Val.{Fits}
use lib.ListN.{length, take, drop, replicate}
use Rattle.paper.specs.Limits.{most_elements}
use Rattle.paper.specs.Lists.{elements}
use Rattle.paper.specs.Listing.{call_context_in, object_context_in}
use Rattle.paper.specs.Page.{Field}
use Rattle.paper.specs.Entries.{value_at, items_of}
use Rattle.paper.specs.Policy.{descriptor_of}
use Rattle.paper.specs.Table.{descriptor_size, descriptor_words}
use Rattle.file_fields.specs.Places.{IsAccess}
use Rattle.file_fields.specs.Fields.{between, next_at}
use Rattle.file_table.specs.Blocks.{item_blocks, Filled}
use Rattle.file_table.specs.Ready.{Ready}
use Rattle.file_table.proofs.Writing.{Written, written_none, written_more, written_all, written_length, unwritten}
use Rattle.file_fields.proofs.Walking.{Walked, walked, walk_order, walk_within, stretches_first, stretches_more, stretches_none}
use Rattle.file_table.proofs.Fitting.{item_pattern, item_size}

blocks_more : (file : List Field) (access : ℕ) (e : List Field) (es : List (List Field)) → item_blocks file access (e ∷ es) ≡ descriptor_words (descriptor_of file access e) ++ item_blocks file access es
unfolding item_blocks flat_map
blocks_more file access e es = refl

blocks_none : (file : List Field) (access : ℕ) → item_blocks file access [] ≡ []
unfolding item_blocks flat_map
blocks_none file access = refl

-- ---- d descriptors are written, and these items are left

pub record ItemsWritten (file : List Field) (access : ℕ) (items left : List (List Field)) (d size : ℕ) (out : List ℕ) : Type 0 where
  pub small : size * 2 < 2 ^ 63
  pub count : d + length left ≡ length items
  pub done : Written size (descriptor_size * d) (item_blocks file access items) (item_blocks file access left) out

pub items_begin : (file : List Field) (access : ℕ) (items left : List (List Field)) (out : List ℕ) → left ≡ items → out ≡ replicate (length out) 0 → length out * 2 < 2 ^ 63
    → ItemsWritten file access items left 0 (length out) out
items_begin file access items left out same z l =
    record {
      small = l;
      count = rw same (omega arith);
      done = rw same (written_none (length out) (item_blocks file access items) out z);
    }

module _ (file : List Field) (access : ℕ) (items left : List (List Field)) (d : ℕ) (old out : List ℕ) (w : ItemsWritten file access items left d (length old) out) where
  pub items_at_fits : Fits w64 (descriptor_size * d)
  items_at_fits = omega (arith, w.small, w.done.within)

  pub items_end_fits : Fits w64 (descriptor_size * d + descriptor_size)
  items_end_fits = omega (arith, w.small, w.done.within)

  pub items_number_fits : Fits w64 (d + 1)
  items_number_fits = omega (arith, w.small, w.done.within)

  module _ (e : List Field) (rest : List (List Field)) (more : left ≡ e ∷ rest) (enough : descriptor_size * length items ≤ length old) where
    item_room : descriptor_size * d + descriptor_size ≤ length old
    item_room = omega (arith, ap length more, w.count)

    pub item_end : descriptor_size * d + descriptor_size ≤ length out
    item_end = omega (arith, item_room, w.done.long)

    pub item_unwritten : take (descriptor_size * d + descriptor_size - descriptor_size * d) (drop (descriptor_size * d) out) ≡ replicate descriptor_size 0
    item_unwritten = let q : descriptor_size * d + descriptor_size - descriptor_size * d ≡ descriptor_size = omega arith in rw q (unwritten w.done descriptor_size item_room)

    pub items_again : (ys : List ℕ) → ys ≡ descriptor_words (descriptor_of file access e) → length (descriptor_words (descriptor_of file access e)) ≡ descriptor_size
        → ItemsWritten file access items rest (d + 1) (length old)
        (take (descriptor_size * d) out ++ (ys ++ drop (descriptor_size * d + descriptor_size - descriptor_size * d) (drop (descriptor_size * d) out)))
    items_again ys y size =
        let q : descriptor_size * d + descriptor_size - descriptor_size * d ≡ descriptor_size = omega arith in
        let at : descriptor_size * (d + 1) ≡ descriptor_size * d + descriptor_size = omega arith in
        let behind : item_blocks file access left ≡ ys ++ item_blocks file access rest = rw (more, blocks_more, y) refl in
        record {
          small = w.small;
          count = omega (arith, ap length more, w.count);
          done = rw (q, at) (written_more w.done descriptor_size ys (item_blocks file access rest) behind (rw y size) item_room);
        }

  pub items_all : left ≡ [] → Filled descriptor_size (length items) (item_blocks file access items) old out d
  items_all none =
      let behind : item_blocks file access left ≡ [] = rw none (blocks_none file access) in
      record { counted = omega (arith, ap length none, w.count); long = written_length w.done behind; holds = written_all w.done behind }
