-- The five blocks of a table, and a policy's own sizes.
use mathlib.Core.Path.{◌≡◌, refl}
use mathlib.Core.Bool.{true}
use mathlib.Core.List.{List, [], ◌∷◌, ◌++◌, flat_map}
use Prim.Native.Nat.{ℕ, ◌+◌, ◌-◌, ◌*◌, ◌<◌, ◌≤◌}
use native.Mathlib.Omega.{arith}
use borrow.Author.Tests.{leb-true, le-leb}
use lib.Dec.{ltb}
use lib.ListN.{length, get_or, length-append}
use Rattle.paper.specs.Limits.{most_descriptors, most_domains, most_entries, most_members, table_words}
use Rattle.paper.specs.Common.{all_of}
use Rattle.paper.specs.Policy.{Policy}
use Rattle.paper.specs.Table.{descriptor_size, descriptors_at, descriptors_size, entries_at, entries_size, entry_count_at, entry_size, function_count_at, functions_at, head_size}
use Rattle.paper.specs.Table.{head_spare_at, head_spare_size, object_count_at, object_domain_count_at, objects_at, subject_domain_count_at}
use Rattle.paper.specs.Table.{mark, padded, entry_words, descriptor_words, words_of}
use Rattle.laws.proofs.Tests.{both_left, both_right}
use Rattle.laws.proofs.Stretches.{Stands, word_at, stands_none, stands_left, stands_right, stands_both, stands_more, padded_front, padded_zero, padded_stands, length_padded}
use Rattle.laws.proofs.Counting.{all_of_weaker, all_of_flat_map, flat_map_flat_map}
use Rattle.laws.proofs.Blocks.{length_blocks}
use Rattle.laws_table.specs.Proper.{proper_descriptor, proper_entry, proper_counts, proper, accesses_of, all_descriptors, no_two, share_principal}
use Rattle.laws_table.proofs.Entries.{Agree, descriptor_few, entry_few, entry_descriptors, length_descriptor, length_entry}

-- what `proper` asks
pub record Proper (p : Policy) : Type 0 where
  pub object_domains : p.object_domains ≤ most_domains
  pub subject_domains : p.subject_domains ≤ most_domains
  pub objects : length p.objects ≤ most_members
  pub functions : length p.functions ≤ most_members
  pub entries : length p.entries ≤ most_entries
  pub descriptors : length (all_descriptors p) ≤ most_descriptors
  pub objects_below : all_of (λ d. ltb d p.object_domains) p.objects ≡ true
  pub functions_below : all_of (λ d. ltb d p.subject_domains) p.functions ≡ true
  pub each : all_of (proper_entry p) p.entries ≡ true
  pub apart : no_two share_principal p.entries ≡ true

pub proper_is : (p : Policy) → proper p ≡ true → Proper p
unfolding proper proper_counts
proper_is p h = record {
  object_domains = leb-true _ _ (search both_left depth 10);
  subject_domains = leb-true _ _ (search (both_left, both_right) depth 10);
  objects = leb-true _ _ (search (both_left, both_right) depth 10);
  functions = leb-true _ _ (search (both_left, both_right) depth 10);
  entries = leb-true _ _ (search (both_left, both_right) depth 10);
  descriptors = leb-true _ _ (search (both_left, both_right) depth 10);
  objects_below = search (both_left, both_right) depth 10;
  functions_below = search (both_left, both_right) depth 10;
  each = search (both_left, both_right) depth 10;
  apart = search (both_left, both_right) depth 10;
}

pub is_proper : (p : Policy) → Proper p → proper p ≡ true
unfolding proper proper_counts
is_proper p f =
    rw (le-leb _ _ f.object_domains, le-leb _ _ f.subject_domains, le-leb _ _ f.objects, le-leb _ _ f.functions, le-leb _ _ f.entries, le-leb _ _ f.descriptors)
    (rw (f.objects_below, f.functions_below, f.each) f.apart)

-- the head, objects, functions, entries, descriptors
pub record Parts (ws : List ℕ) (p : Policy) : Type 0 where
  pub marked : get_or ws 0 0 ≡ mark
  pub object_domains : get_or ws object_domain_count_at 0 ≡ p.object_domains
  pub subject_domains : get_or ws subject_domain_count_at 0 ≡ p.subject_domains
  pub object_count : get_or ws object_count_at 0 ≡ length p.objects
  pub function_count : get_or ws function_count_at 0 ≡ length p.functions
  pub entry_count : get_or ws entry_count_at 0 ≡ length p.entries
  pub unused : (i : ℕ) → i < head_spare_size → get_or ws (head_spare_at + i) 0 ≡ 0
  pub objects : Stands ws objects_at (padded most_members p.objects)
  pub functions : Stands ws functions_at (padded most_members p.functions)
  pub entries : Stands ws entries_at (padded entries_size (flat_map entry_words p.entries))
  pub descriptors : Stands ws descriptors_at (padded descriptors_size (flat_map descriptor_words (all_descriptors p)))

module _ (p : Policy) (good : Proper p) where
  pub all_descriptors_lem : all_of (proper_descriptor p) (all_descriptors p) ≡ true
  unfolding all_descriptors
  all_descriptors_lem = all_of_flat_map _ accesses_of p.entries (all_of_weaker (proper_entry p) _ (entry_descriptors p) p.entries good.each)

  pub length_entries : length (flat_map entry_words p.entries) ≡ entry_size * length p.entries
  length_entries = length_blocks entry_words (proper_entry p) entry_size (λ e h. length_entry e (entry_few p e h)) p.entries good.each

  pub length_descriptors : length (flat_map descriptor_words (all_descriptors p)) ≡ descriptor_size * length (all_descriptors p)
  length_descriptors = length_blocks descriptor_words (proper_descriptor p) descriptor_size (λ d h. length_descriptor d (descriptor_few p d h)) (all_descriptors p) all_descriptors_lem

  abbrev head : List ℕ
  head = mark ∷ p.object_domains ∷ p.subject_domains ∷ length p.objects ∷ length p.functions ∷ length p.entries ∷ []

  -- the words, with all descriptors in one list
  abbrev blocks : List ℕ
  blocks =
      padded head_size head
      ++ (padded most_members p.objects
      ++ (padded most_members p.functions
      ++ (padded entries_size (flat_map entry_words p.entries) ++ padded descriptors_size (flat_map descriptor_words (all_descriptors p)))))

  words_blocks : words_of p ≡ blocks
  unfolding words_of all_descriptors accesses_of
  words_blocks = rw (flat_map_flat_map descriptor_words (λ e. e.reads ++ e.writes) p.entries)

  head_length : length (padded head_size head) ≡ head_size
  head_length = length_padded head_size head (omega arith)

  objects_length : length (padded most_members p.objects) ≡ most_members
  objects_length = length_padded most_members p.objects good.objects

  functions_length : length (padded most_members p.functions) ≡ most_members
  functions_length = length_padded most_members p.functions good.functions

  entries_length : length (padded entries_size (flat_map entry_words p.entries)) ≡ entries_size
  entries_length = length_padded entries_size _ (omega (arith, length_entries, good.entries))

  descriptors_length : length (padded descriptors_size (flat_map descriptor_words (all_descriptors p))) ≡ descriptors_size
  descriptors_length = length_padded descriptors_size _ (omega (arith, length_descriptors, good.descriptors))

  pub length_words : length (words_of p) ≡ table_words
  length_words = rw (words_blocks, length-append, head_length, length-append, objects_length, length-append, functions_length, length-append, entries_length, descriptors_length)

  module _ (ws : List ℕ) where
    pub table_parts : Stands ws 0 (words_of p) → Parts ws p
    table_parts s =
        let b : Stands ws 0 blocks = rw words_blocks at s in
        let h : Stands ws 0 (padded head_size head) = stands_left ws 0 (padded head_size head) _ b in
        let f : Stands ws 0 head = padded_front ws 0 head_size head h in
        let b1 = stands_right ws 0 objects_at (padded head_size head) _ (omega (arith, head_length)) b in
        let b2 = stands_right ws objects_at functions_at (padded most_members p.objects) _ (omega (arith, objects_length)) b1 in
        let b3 = stands_right ws functions_at entries_at (padded most_members p.functions) _ (omega (arith, functions_length)) b2 in
        record {
          marked = f.reads 0 (omega arith);
          object_domains = f.reads object_domain_count_at (omega arith);
          subject_domains = f.reads subject_domain_count_at (omega arith);
          object_count = f.reads object_count_at (omega arith);
          function_count = f.reads function_count_at (omega arith);
          entry_count = f.reads entry_count_at (omega arith);
          unused = λ i l. word_at ws (0 + (head_spare_at + i)) (head_spare_at + i) 0 (omega arith) (padded_zero ws 0 head_size head h (head_spare_at + i) (omega arith) (omega arith));
          objects = stands_left ws objects_at _ _ b1;
          functions = stands_left ws functions_at _ _ b2;
          entries = stands_left ws entries_at (padded entries_size (flat_map entry_words p.entries)) _ b3;
          descriptors = stands_right ws entries_at descriptors_at (padded entries_size (flat_map entry_words p.entries)) _ (omega (arith, entries_length)) b3;
        }

    pub table_whole : Parts ws p → Stands ws 0 (words_of p)
    table_whole t =
        rw words_blocks
        (stands_both ws 0 objects_at (padded head_size head) _ (omega (arith, head_length))
        (padded_stands ws 0 head_size head
        (stands_more ws 0 1 _ _ refl t.marked
        (stands_more ws 1 2 _ _ refl t.object_domains
        (stands_more ws 2 3 _ _ refl t.subject_domains
        (stands_more ws 3 4 _ _ refl t.object_count
        (stands_more ws 4 5 _ _ refl t.function_count
        (stands_more ws 5 6 _ _ refl t.entry_count
        (stands_none ws 6)))))))
        (λ i a b. word_at ws (6 + (i - 6)) (0 + i) 0 (omega arith) (t.unused (i - 6) (omega arith))))
        (stands_both ws objects_at functions_at (padded most_members p.objects) _ (omega (arith, objects_length)) t.objects
        (stands_both ws functions_at entries_at (padded most_members p.functions) _ (omega (arith, functions_length)) t.functions
        (stands_both ws entries_at descriptors_at (padded entries_size (flat_map entry_words p.entries)) _ (omega (arith, entries_length)) t.entries t.descriptors))))

    pub parts_agree : Parts ws p → Agree p ws
    parts_agree t = record { functions = t.function_count; object_domains = t.object_domains; subject_domains = t.subject_domains }
