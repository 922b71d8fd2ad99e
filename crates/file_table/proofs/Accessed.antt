-- The descriptors of an entry's reads, then of its writes, and those of all entries, one behind the other.
use mathlib.Core.Path.{◌≡◌, refl, sym, ap, ◌∙◌}
use mathlib.Core.Bool.{Bool, true, false}
use mathlib.Core.List.{List, [], ◌∷◌, ◌++◌, flat_map, append-nil}
use Prim.Native.Nat.{ℕ, ◌+◌, ◌-◌, ◌*◌, ◌^◌, ◌<◌, ◌≤◌}
use native.Mathlib.Omega.{arith}
use mir.Syntax.{w64}
use mir.Val.{Fits}
use lib.ListN.{length, take, drop, replicate, length-replicate}
use lib.Seq.{length-take-le}
use Rattle.paper.specs.Common.{bytes, is}
use Rattle.paper.specs.Limits.{most_elements}
use Rattle.paper.specs.Lists.{elements}
use Rattle.paper.specs.Listing.{principal, can_read, can_write, call_context_in, object_context_in}
use Rattle.paper.specs.Page.{Field}
use Rattle.paper.specs.Entries.{value_at, entries_of, items_of}
use Rattle.paper.specs.Rules.{descriptors_of, descriptors_in}
use Rattle.paper.specs.Policy.{descriptor_of, access_of}
use Rattle.paper.specs.Table.{descriptor_size, descriptors_size, padded, descriptor_words}
use Rattle.laws.proofs.Places.{drop_zeros}
use Rattle.laws.proofs.Stretches.{length_padded}
use Rattle.laws_file.specs.Accepted.{total}
use Rattle.file_fields.specs.Places.{IsAccess}
use Rattle.file_fields.specs.Fields.{between, next_at, value_or}
use Rattle.file_fields.proofs.Between.{between_none}
use Rattle.file_fields.proofs.Accesses.{access_value, one_descriptor}
use Rattle.file_table.specs.Blocks.{item_blocks, access_blocks, own_blocks, descriptor_blocks, Filled}
use Rattle.file_table.specs.Ready.{Ready, Bounded}
use Rattle.file_table.proofs.Writing.{take_zeros, Written, written_none, written_padded, written_all, written_length, left_zeros, left_room, zeros_length}
use Rattle.file_fields.proofs.Walking.{Walked, walked}
use Rattle.file_table.proofs.Fitting.{item_pattern, item_size}
use Rattle.file_table.proofs.Entered.{total_more, both_counts}
use Rattle.file_fields.specs.declared.file.FieldAt.{FieldAt}

-- ---- `can_read` or `can_write`

all_blocks : (file : List Field) (access : ℕ) (entry : List Field) → is "all" (value_at access entry) ≡ true → access_blocks file access entry ≡ descriptor_words (descriptor_of file access [])
unfolding access_blocks access_of flat_map
all_blocks file access entry e = rw (e, append-nil) refl

items_blocks : (file : List Field) (access : ℕ) (entry : List Field) → is "all" (value_at access entry) ≡ false → access_blocks file access entry ≡ item_blocks file access (items_of access entry)
unfolding access_blocks item_blocks access_of
items_blocks file access entry e = rw e refl

items_counted : (access : ℕ) (entry : List Field) → is "all" (value_at access entry) ≡ false → descriptors_of access entry ≡ length (items_of access entry)
unfolding descriptors_of
items_counted access entry e = rw e refl

module _ (access : ℕ) (which : IsAccess access) (t : List ℕ) (list : List FieldAt) (from to : ℕ) (v : List ℕ)
    (e : v ≡ value_or (bytes "all") (bytes "[]") access (between t list from to)) (r : Bool)
    (q : r ≡ is "all" v) where
  said : is "all" (value_at access (between t list from to)) ≡ r
  said = rw (← access_value access which t list from to v e r q, ← q) refl

  module _ (old : List ℕ) (enough : descriptor_size * descriptors_of access (between t list from to) ≤ length old) where
    pub all_room : r ≡ true → descriptor_size ≤ length old
    all_room h = omega (arith, one_descriptor access which t list from to v e r q h)

    pub items_room : r ≡ false → descriptor_size * length (items_of access (between t list from to)) ≤ length old
    items_room h = omega (arith, items_counted access (between t list from to) (said ∙ h))

-- no field at all stands between a number and itself
module _ (t : List ℕ) (list : List FieldAt) (n : ℕ) (words starts : List ℕ) (ready : Ready t list n words starts) (to : ℕ) (b : to ≤ n) where
  module _ (access : ℕ) (which : IsAccess access) where
    pub none_short : length (elements (value_at (call_context_in (object_context_in access)) (between t list to to))) ≤ most_elements
    none_short = item_pattern t list n words starts ready to to (omega arith) b access which

    none_size : length (descriptor_words (descriptor_of (between t list 0 n) access [])) ≡ descriptor_size
    none_size =
        rw (between_none t list to to (omega arith)) at (item_size t list n words starts ready to to (omega arith) b (between t list 0 n) access which)

    module _ (from : ℕ) (v : List ℕ) (e : v ≡ value_or (bytes "all") (bytes "[]") access (between t list from to)) (r : Bool) (q : r ≡ is "all" v) where
      module _ (old : List ℕ) (zeros : old ≡ replicate (length old) 0) (enough : descriptor_size * descriptors_of access (between t list from to) ≤ length old) where
        pub all_part : r ≡ true → length (take descriptor_size old) ≡ descriptor_size
        all_part h = length-take-le descriptor_size old (all_room access which t list from to v e r q old enough h)

        pub all_unwritten : r ≡ true → take descriptor_size old ≡ replicate descriptor_size 0
        all_unwritten h = ap (take descriptor_size) zeros ∙ take_zeros descriptor_size (length old) (all_room access which t list from to v e r q old enough h)

        pub all_filled : (ys : List ℕ) → r ≡ true → ys ≡ descriptor_words (descriptor_of (between t list 0 n) access (between t list to to))
            → Filled descriptor_size (descriptors_of access (between t list from to)) (access_blocks (between t list 0 n) access (between t list from to)) old (ys ++ drop descriptor_size old) 1
        unfolding padded
        all_filled ys h y =
            let words : access_blocks (between t list 0 n) access (between t list from to) ≡ descriptor_words (descriptor_of (between t list 0 n) access []) =
            all_blocks (between t list 0 n) access (between t list from to) (said access which t list from to v e r q ∙ h) in
            let given : ys ≡ descriptor_words (descriptor_of (between t list 0 n) access []) = y ∙ rw (between_none t list to to (omega arith)) refl in
            record {
              counted = one_descriptor access which t list from to v e r q h;
              long = rw (words, none_size) refl;
              holds = rw (words, given, none_size) (ap (λ (l : List ℕ). descriptor_words (descriptor_of (between t list 0 n) access []) ++ l)
                  (ap (drop descriptor_size) zeros ∙ drop_zeros (length old) descriptor_size));
            }

        pub items_filled : (new : List ℕ) (d : ℕ) → r ≡ false
            → Filled descriptor_size (length (items_of access (between t list from to))) (item_blocks (between t list 0 n) access (items_of access (between t list from to))) old new d
            → Filled descriptor_size (descriptors_of access (between t list from to)) (access_blocks (between t list 0 n) access (between t list from to)) old new d
        items_filled new d h f = rw (
          items_counted access (between t list from to) (said access which t list from to v e r q ∙ h),
          items_blocks
              (between t list 0 n) access (between t list from to) (said access which t list from to v e r q ∙ h),
        ) f

-- ---- both of an entry

module _ (t : List ℕ) (list : List FieldAt) (n from to : ℕ) (old : List ℕ) (enough : descriptor_size * descriptors_in (between t list from to) ≤ length old) where
  pub reads_room : descriptor_size * descriptors_of can_read (between t list from to) ≤ length old
  reads_room = omega (arith, both_counts (between t list from to))

  module _ (new : List ℕ) (reads : ℕ) (f : Filled descriptor_size (descriptors_of can_read (between t list from to))
      (access_blocks (between t list 0 n) can_read (between t list from to)) old new reads) where
    reads_within : descriptor_size * reads ≤ length old
    reads_within = omega (arith, reads_room, f.counted)

    reads_written : Written (length old) (descriptor_size * reads) (own_blocks (between t list 0 n) (between t list from to)) (access_blocks (between t list 0 n) can_write (between t list from to)) new
    unfolding own_blocks
    reads_written = record {
      front = access_blocks (between t list 0 n) can_read (between t list from to);
      joins = refl;
      place = sym f.long;
      within = reads_within;
      long = rw f.holds (length_padded (length old) (access_blocks (between t list 0 n) can_read (between t list from to)) (omega (arith, f.long, reads_within)));
      holds = f.holds;
    }

    pub reads_fit : length old * 2 < 2 ^ 63 → Fits w64 (descriptor_size * reads)
    reads_fit l = omega (arith, reads_within)

    pub reads_scaled : length old * 2 < 2 ^ 63 → Fits w64 (descriptor_size * reads * 2)
    reads_scaled l = omega (arith, reads_within)

    pub writes_start : descriptor_size * reads ≤ length new
    writes_start = omega (arith, reads_within, reads_written.long)

    pub writes_unwritten :
        take (length new - descriptor_size * reads) (drop (descriptor_size * reads) new) ≡ replicate (length (take (length new - descriptor_size * reads) (drop (descriptor_size * reads) new))) 0
    writes_unwritten = left_zeros reads_written

    pub writes_room : descriptor_size * descriptors_of can_write (between t list from to) ≤ length (take (length new - descriptor_size * reads) (drop (descriptor_size * reads) new))
    writes_room = left_room reads_written (descriptor_size * descriptors_of can_write (between t list from to)) (omega (arith, both_counts (between t list from to), f.counted))

    module _ (y : List ℕ) (writes : ℕ)
        (g : Filled descriptor_size (descriptors_of can_write (between t list from to)) (access_blocks (between t list 0 n) can_write (between t list from to))
        (take (length new - descriptor_size * reads) (drop (descriptor_size * reads) new)) y writes) where
      both_within : descriptor_size * reads + descriptor_size * writes ≤ length old
      both_within = omega (arith, both_counts (between t list from to), f.counted, g.counted)

      pub both_filled :
          Filled descriptor_size (descriptors_in (between t list from to)) (own_blocks (between t list 0 n) (between t list from to)) old
          (take (descriptor_size * reads) new ++ (y ++ drop (length new - descriptor_size * reads) (drop (descriptor_size * reads) new))) (reads + writes)
      both_filled =
          let w = written_padded reads_written y (access_blocks (between t list 0 n) can_write (between t list from to)) []
          (sym (append-nil (access_blocks (between t list 0 n) can_write (between t list from to)))) g.holds
          (omega (arith, both_within, g.long)) in
          record {
            counted = omega (arith, both_counts (between t list from to), f.counted, g.counted);
            long = omega (arith, written_length w refl, g.long);
            holds = written_all w refl;
          }

pub both_fit : (entry : List Field) (old : List ℕ) (reads writes : ℕ) → descriptor_size * descriptors_in entry ≤ length old → reads ≡ descriptors_of can_read entry → writes ≡ descriptors_of can_write entry
    → length old * 2 < 2 ^ 63 → Fits w64 (reads + writes)
both_fit entry old reads writes enough r w l = omega (arith, both_counts entry)

-- ---- of all entries: d descriptors are written, those of the entries before number `from`

blocks_more : (file e : List Field) (es : List (List Field)) → descriptor_blocks file (e ∷ es) ≡ own_blocks file e ++ descriptor_blocks file es
unfolding descriptor_blocks flat_map
blocks_more file e es = refl

blocks_none : (file : List Field) → descriptor_blocks file [] ≡ []
unfolding descriptor_blocks flat_map
blocks_none file = refl

total_none : total descriptors_in [] ≡ 0
unfolding total
total_none = refl

pub record DescriptorsWritten (file : List Field) (left : List (List Field)) (d : ℕ) (out : List ℕ) : Type 0 where
  pub count : d + total descriptors_in left ≡ total descriptors_in (entries_of file)
  pub done : Written descriptors_size (descriptor_size * d) (descriptor_blocks file (entries_of file)) (descriptor_blocks file left) out

pub descriptors_begin : (file : List Field) (left : List (List Field)) (out : List ℕ) → left ≡ entries_of file → out ≡ replicate descriptors_size 0 → DescriptorsWritten file left 0 out
descriptors_begin file left out same z =
    record { count = rw same (omega arith); done = rw same (written_none descriptors_size (descriptor_blocks file (entries_of file)) out z) }

module _ (file : List Field) (left : List (List Field)) (d : ℕ) (out : List ℕ) (w : DescriptorsWritten file left d out) where
  pub descriptors_start : descriptor_size * d ≤ length out
  descriptors_start = omega (arith, w.done.within, w.done.long)

  pub descriptors_unwritten : take (length out - descriptor_size * d) (drop (descriptor_size * d) out) ≡ replicate (length (take (length out - descriptor_size * d) (drop (descriptor_size * d) out))) 0
  descriptors_unwritten = left_zeros w.done

  module _ (few : Bounded file) (e : List Field) (rest : List (List Field)) (more : left ≡ e ∷ rest) where
    count_here : d + (descriptors_in e + total descriptors_in rest) ≡ total descriptors_in (entries_of file)
    count_here = rw (← total_more e rest, ← more) w.count

    own_room : descriptor_size * d + descriptor_size * descriptors_in e ≤ descriptors_size
    own_room = omega (arith, count_here, few.descriptors)

    pub descriptors_room : descriptor_size * descriptors_in e ≤ length (take (length out - descriptor_size * d) (drop (descriptor_size * d) out))
    descriptors_room = left_room w.done (descriptor_size * descriptors_in e) own_room

    module _ (y : List ℕ) (r : ℕ) (f : Filled descriptor_size (descriptors_in e) (own_blocks file e) (take (length out - descriptor_size * d) (drop (descriptor_size * d) out)) y r) where
      pub descriptors_number_fits : Fits w64 (d + r)
      descriptors_number_fits = omega (arith, own_room, f.counted)

      pub descriptors_again : DescriptorsWritten file rest (d + r) (take (descriptor_size * d) out ++ (y ++ drop (length out - descriptor_size * d) (drop (descriptor_size * d) out)))
      descriptors_again =
          let behind : descriptor_blocks file left ≡ own_blocks file e ++ descriptor_blocks file rest = rw (more, blocks_more) refl in
          let at : descriptor_size * (d + r) ≡ descriptor_size * d + length (own_blocks file e) = omega (arith, f.long) in
          record {
            count = omega (arith, count_here, f.counted);
            done = rw at (written_padded w.done y (own_blocks file e) (descriptor_blocks file rest) behind f.holds (omega (arith, own_room, f.long, f.counted)));
          }

  pub descriptors_length : (old : List ℕ) → old ≡ replicate descriptors_size 0 → length out ≡ length old
  descriptors_length old e = zeros_length descriptors_size old out e w.done.long

  pub descriptors_all : (old : List ℕ) → old ≡ replicate descriptors_size 0 → left ≡ []
      → Filled descriptor_size (total descriptors_in (entries_of file)) (descriptor_blocks file (entries_of file)) old out d
  descriptors_all old z none =
      let behind : descriptor_blocks file left ≡ [] = rw none (blocks_none file) in
      let l : length old ≡ descriptors_size = rw z (length-replicate {A = ℕ} descriptors_size 0) in
      record { counted = omega (arith, ap (total descriptors_in) none, total_none, w.count); long = written_length w.done behind; holds = rw l (written_all w.done behind) }
