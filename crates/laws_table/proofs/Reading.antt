-- A policy is read back from its words.
use mathlib.Core.Path.{◌≡◌, refl}
use mathlib.Core.Bool.{true}
use mathlib.Core.List.{List, ◌∷◌, ◌++◌, map, flat_map}
use Prim.Native.Nat.{ℕ, ◌+◌, ◌*◌, ◌≤◌}
use native.Mathlib.Numerals.{add-one}
use native.Mathlib.Omega.{arith}
use lib.ListN.{length, length-append}
use Rattle.paper.specs.Limits.{most_descriptors, most_entries, most_members, table_words}
use Rattle.paper.specs.Common.{all_of, count_up}
use Rattle.paper.specs.Policy.{Descriptor, Entry, Policy}
use Rattle.paper.specs.Table.{descriptor_size, descriptors_at, descriptors_size, entries_at, entries_size, entry_size, functions_at, objects_at}
use Rattle.paper.specs.Table.{entry_at, descriptor_at, entry_words, descriptor_words, first_descriptor, descriptor_in, entry_in, policy_in}
use Rattle.laws.proofs.Tests.{both_left, both_right}
use Rattle.laws.proofs.Stretches.{Stands, stands_left, stands_right, taken_stretch, padded_front}
use Rattle.laws.proofs.Counting.{all_of_append_left, all_of_append_right, counted_list}
use Rattle.laws.proofs.Blocks.{next_block, length_blocks, blocks_left, blocks_right}
use Rattle.laws_table.specs.Proper.{proper_descriptor, proper_entry, accesses_of, all_descriptors}
use Rattle.laws_table.proofs.Entries.{EntryParts, descriptor_few, entry_few, entry_descriptors, length_descriptor, length_entry, entry_parts, descriptor_read, entry_read}
use Rattle.laws_table.proofs.Parts.{Proper, Parts, parts_agree}

module _ (p : Policy) (good : Proper p) (ws : List ℕ) (long : table_words ≤ length ws) (parts : Parts ws p) where
  -- ---- descriptors from number k on

  record DescriptorsFrom (k : ℕ) (ds : List Descriptor) : Type 0 where
    few : k + length ds ≤ most_descriptors
    each : all_of (proper_descriptor p) ds ≡ true
    words : Stands ws (descriptor_at k) (flat_map descriptor_words ds)

  descriptor_step : (k : ℕ) (d : Descriptor) (ds : List Descriptor) → DescriptorsFrom k (d ∷ ds) → (descriptor_in ws k ≡ d) × DescriptorsFrom (k + 1) ds
  unfolding flat_map all_of
  descriptor_step k d ds h =
      let few : k + length (d ∷ ds) ≤ most_descriptors = h.few in
      let own : proper_descriptor p d ≡ true = both_left (proper_descriptor p d) (all_of (proper_descriptor p) ds) h.each in (
        descriptor_read p ws (parts_agree p good ws parts) k (omega arith) d good.object_domains good.functions own (stands_left ws (descriptor_at k) (descriptor_words d) _ h.words),
        record {
          few = omega arith;
          each = both_right (proper_descriptor p d) (all_of (proper_descriptor p) ds) h.each;
          words = stands_right ws (descriptor_at k) (descriptor_at (k + 1)) (descriptor_words d) _ (next_block descriptors_at descriptor_size k _ (length_descriptor d (descriptor_few p d own))) h.words;
        },
      )

  descriptors_read : (k : ℕ) (ds : List Descriptor) → DescriptorsFrom k ds → map (descriptor_in ws) (count_up k (length ds)) ≡ ds
  descriptors_read k ds h = counted_list (descriptor_in ws) DescriptorsFrom descriptor_step k ds h

  run_length : (ds : List Descriptor) → all_of (proper_descriptor p) ds ≡ true → length (flat_map descriptor_words ds) ≡ descriptor_size * length ds
  run_length ds h = length_blocks descriptor_words (proper_descriptor p) descriptor_size (λ d own. length_descriptor d (descriptor_few p d own)) ds h

  -- ---- entries from number k on, and their descriptors

  record EntriesFrom (k : ℕ) (es : List Entry) : Type 0 where
    few : k + length es ≤ most_entries
    few_descriptors : first_descriptor ws k + length (flat_map accesses_of es) ≤ most_descriptors
    each : all_of (proper_entry p) es ≡ true
    words : Stands ws (entry_at k) (flat_map entry_words es)
    descriptors : Stands ws (descriptor_at (first_descriptor ws k)) (flat_map descriptor_words (flat_map accesses_of es))

  next_first : (k : ℕ) (e : Entry) → EntryParts ws (entry_at k) e → first_descriptor ws (k + 1) ≡ first_descriptor ws k + length (accesses_of e)
  unfolding first_descriptor accesses_of
  next_first k e q = rw add-one (omega (arith, q.reads, q.writes, length-append e.reads e.writes))

  entry_step : (k : ℕ) (e : Entry) (es : List Entry) → EntriesFrom k (e ∷ es) → (entry_in ws k ≡ e) × EntriesFrom (k + 1) es
  unfolding flat_map all_of accesses_of
  entry_step k e es h =
      let few : k + length (e ∷ es) ≤ most_entries = h.few in
      let own : proper_entry p e ≡ true = both_left (proper_entry p e) (all_of (proper_entry p) es) h.each in
      let run : all_of (proper_descriptor p) (e.reads ++ e.writes) ≡ true = entry_descriptors p e own in
      let reads : all_of (proper_descriptor p) e.reads ≡ true = all_of_append_left _ e.reads e.writes run in
      let writes : all_of (proper_descriptor p) e.writes ≡ true = all_of_append_right _ e.reads e.writes run in
      let first : ℕ = first_descriptor ws k in
      let fewer : first + length (e.reads ++ e.writes ++ flat_map accesses_of es) ≤ most_descriptors = h.few_descriptors in
      let s : Stands ws (entry_at k) (entry_words e) = stands_left ws (entry_at k) (entry_words e) _ h.words in
      let r : Stands ws (descriptor_at first) (flat_map descriptor_words (e.reads ++ e.writes)) =
      blocks_left descriptor_words ws (descriptor_at first) (e.reads ++ e.writes) (flat_map accesses_of es) h.descriptors in
      let l1 = length-append (e.reads ++ e.writes) (flat_map accesses_of es) in
      let l2 = length-append e.reads e.writes in
      let n : first_descriptor ws (k + 1) ≡ first + length (e.reads ++ e.writes) = next_first k e (entry_parts e (entry_few p e own) ws (entry_at k) s) in (
        entry_read p ws (parts_agree p good ws parts) k (omega arith) e good.subject_domains good.functions own s
            (descriptors_read first e.reads (record { few = omega arith; each = reads; words = blocks_left descriptor_words ws (descriptor_at first) e.reads e.writes r }))
            (descriptors_read (first + length e.reads) e.writes (record {
              few = omega arith;
              each = writes;
              words = blocks_right descriptor_words ws descriptors_at descriptor_size first e.reads e.writes (run_length e.reads reads) r;
            })),
        record {
          few = omega arith;
          few_descriptors = omega arith;
          each = both_right (proper_entry p e) (all_of (proper_entry p) es) h.each;
          words = stands_right ws (entry_at k) (entry_at (k + 1)) (entry_words e) _ (next_block entries_at entry_size k _ (length_entry e (entry_few p e own))) h.words;
          descriptors = rw n
              (blocks_right descriptor_words ws descriptors_at descriptor_size first (e.reads ++ e.writes) (flat_map accesses_of es) (run_length (e.reads ++ e.writes) run) h.descriptors);
        },
      )

  entries_read : map (entry_in ws) (count_up 0 (length p.entries)) ≡ p.entries
  unfolding first_descriptor all_descriptors
  entries_read = counted_list (entry_in ws) EntriesFrom entry_step 0 p.entries (record {
    few = omega (arith, good.entries);
    few_descriptors = omega (arith, good.descriptors);
    each = good.each;
    words = padded_front ws entries_at entries_size _ parts.entries;
    descriptors = padded_front ws descriptors_at descriptors_size _ parts.descriptors;
  })

  pub policy_read_lem : policy_in ws ≡ p
  unfolding policy_in
  policy_read_lem =
      rw (
        parts.object_domains,
        parts.subject_domains,
        parts.object_count,
        parts.function_count,
        parts.entry_count,
        entries_read,
        taken_stretch ws objects_at (length p.objects) p.objects refl (omega (arith, good.objects)) (padded_front ws objects_at most_members _ parts.objects),
        taken_stretch ws functions_at (length p.functions) p.functions refl (omega (arith, good.functions)) (padded_front ws functions_at most_members _ parts.functions),
      )
