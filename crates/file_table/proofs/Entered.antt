-- The entries written so far, and the next one behind them.
use mathlib.Core.Path.{◌≡◌, refl, ap}
use mathlib.Core.List.{List, [], ◌∷◌, ◌++◌, flat_map}
use Prim.Native.Nat.{ℕ, ◌+◌, ◌-◌, ◌*◌, ◌<◌, ◌≤◌}
use native.Mathlib.Omega.{arith}
use lib.ListN.{length, take, drop, replicate, length-replicate}
use Rattle.paper.specs.Limits.{most_elements, most_descriptors}
use Rattle.paper.specs.Lists.{elements}
use Rattle.paper.specs.Listing.{principal, execution_context, can_read, can_write, call_context_in}
use Rattle.paper.specs.Page.{Field}
use Rattle.paper.specs.Entries.{value_at, entries_of}
use Rattle.paper.specs.Rules.{descriptors_of, descriptors_in}
use Rattle.paper.specs.Policy.{entry_of}
use Rattle.paper.specs.Table.{entry_size, entries_size, entry_words}
use Rattle.laws_file.specs.Accepted.{total}
use Rattle.file_fields.specs.Fields.{between, next_at}
use Rattle.file_table.specs.Blocks.{entry_blocks, Filled}
use Rattle.file_table.specs.Ready.{Ready, Bounded}
use Rattle.file_table.proofs.Writing.{Written, written_none, written_more, written_all, written_length, unwritten, zeros_length}
use Rattle.file_fields.proofs.Walking.{Walked, walked, walk_order, walk_within, stretches_first, stretches_more, stretches_none}
use Rattle.file_table.proofs.Fitting.{entry_pattern, entry_size_lem}

pub total_more : (e : List Field) (es : List (List Field)) → total descriptors_in (e ∷ es) ≡ descriptors_in e + total descriptors_in es
unfolding total
total_more e es = refl

pub both_counts : (e : List Field) → descriptors_in e ≡ descriptors_of can_read e + descriptors_of can_write e
unfolding descriptors_in
both_counts e = refl

blocks_more : (file e : List Field) (es : List (List Field)) → entry_blocks file (e ∷ es) ≡ entry_words (entry_of file e) ++ entry_blocks file es
unfolding entry_blocks flat_map
blocks_more file e es = refl

blocks_none : (file : List Field) → entry_blocks file [] ≡ []
unfolding entry_blocks flat_map
blocks_none file = refl

-- ---- k entries are written, and these are left

pub record EntriesWritten (file : List Field) (left : List (List Field)) (k : ℕ) (out : List ℕ) : Type 0 where
  pub count : k + length left ≡ length (entries_of file)
  pub bound : total descriptors_in left ≤ most_descriptors
  pub done : Written entries_size (entry_size * k) (entry_blocks file (entries_of file)) (entry_blocks file left) out

pub entries_begin : (file : List Field) (left : List (List Field)) (out : List ℕ) → left ≡ entries_of file → Bounded file → out ≡ replicate entries_size 0
    → EntriesWritten file left 0 out
entries_begin file left out same few z =
    record {
      count = rw same (omega arith);
      bound = rw same few.descriptors;
      done = rw same (written_none entries_size (entry_blocks file (entries_of file)) out z);
    }

module _ (file : List Field) (left : List (List Field)) (k : ℕ) (out : List ℕ) (w : EntriesWritten file left k out) where
  module _ (e : List Field) (rest : List (List Field)) (more : left ≡ e ∷ rest) where
    bound_here : descriptors_in e + total descriptors_in rest ≤ most_descriptors
    bound_here = rw (← total_more e rest, ← more) w.bound

    pub entry_reads : descriptors_of can_read e ≤ most_descriptors
    entry_reads = omega (arith, bound_here, both_counts e)

    pub entry_writes : descriptors_of can_write e ≤ most_descriptors
    entry_writes = omega (arith, bound_here, both_counts e)

    module _ (few : Bounded file) where
      entry_room : entry_size * k + entry_size ≤ entries_size
      entry_room = omega (arith, ap length more, w.count, few.entries)

      pub entry_end : entry_size * k + entry_size ≤ length out
      entry_end = omega (arith, entry_room, w.done.long)

      pub entry_unwritten : take (entry_size * k + entry_size - entry_size * k) (drop (entry_size * k) out) ≡ replicate entry_size 0
      entry_unwritten = let q : entry_size * k + entry_size - entry_size * k ≡ entry_size = omega arith in rw q (unwritten w.done entry_size entry_room)

      pub entries_again : (ys : List ℕ) → ys ≡ entry_words (entry_of file e) → length (entry_words (entry_of file e)) ≡ entry_size
          → EntriesWritten file rest (k + 1) (take (entry_size * k) out ++ (ys ++ drop (entry_size * k + entry_size - entry_size * k) (drop (entry_size * k) out)))
      entries_again ys y size =
          let q : entry_size * k + entry_size - entry_size * k ≡ entry_size = omega arith in
          let at : entry_size * (k + 1) ≡ entry_size * k + entry_size = omega arith in
          let behind : entry_blocks file left ≡ ys ++ entry_blocks file rest = rw (more, blocks_more, y) refl in
          record {
            count = omega (arith, ap length more, w.count);
            bound = omega (arith, bound_here);
            done = rw (q, at) (written_more w.done entry_size ys (entry_blocks file rest) behind (rw y size) entry_room);
          }

  pub entries_length : (old : List ℕ) → old ≡ replicate entries_size 0 → length out ≡ length old
  entries_length old e = zeros_length entries_size old out e w.done.long

  pub entries_all : (old : List ℕ) → old ≡ replicate entries_size 0 → left ≡ [] → Filled entry_size (length (entries_of file)) (entry_blocks file (entries_of file)) old out k
  entries_all old z none =
      let behind : entry_blocks file left ≡ [] = rw none (blocks_none file) in
      let l : length old ≡ entries_size = rw z (length-replicate {A = ℕ} entries_size 0) in
      record { counted = omega (arith, ap length none, w.count); long = written_length w.done behind; holds = rw l (written_all w.done behind) }
