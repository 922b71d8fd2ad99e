-- A table is well formed if the policy in it is proper and the table's words are that policy's.
use mathlib.Core.Path.{◌≡◌, sym}
use mathlib.Core.Bool.{true}
use mathlib.Core.List.{List, map}
use Prim.Native.Nat.{ℕ, ◌+◌, ◌*◌, ◌<◌, ◌≤◌}
use native.Mathlib.Omega.{arith}
use lib.ListN.{length, get_or}
use Rattle.paper.specs.Limits.{most_descriptors, most_entries, most_members, table_words}
use Rattle.paper.specs.Common.{all_of, count_up}
use Rattle.paper.specs.Table.{descriptor_size, descriptors_at, descriptors_size, entries_at, entries_size, entry_size, functions_at, objects_at, spare_at}
use Rattle.paper.specs.Table.{entry_at, descriptor_at, entry_words, descriptor_words, object_domain_count, subject_domain_count, object_count, function_count, entry_count}
use Rattle.paper.specs.Table.{descriptor_count, descriptor_in, entry_in, policy_in, entry_fits, descriptor_fits}
use Rattle.laws.proofs.Stretches.{word_at, padded_front, padded_zero}
use Rattle.laws.proofs.Counting.{length_map_counted, all_of_counted}
use Rattle.laws.proofs.Blocks.{block_stands}
use Rattle.laws_table.specs.Proper.{proper_descriptor, proper_entry, all_descriptors}
use Rattle.laws_table.proofs.Entries.{Agree, descriptor_few, entry_few, length_descriptor, length_entry, descriptor_fits_lem, entry_fits_lem, entry_context, entry_bound_lem}
use Rattle.laws_table.proofs.Parts.{Proper, Parts, parts_agree, length_entries, length_descriptors, all_descriptors_lem}
use Rattle.laws_table.proofs.Formed.{Formed, members_fit_lem}
use Rattle.laws_table.proofs.Principals.{principals_differ_lem}
use Rattle.laws_table.proofs.Accesses.{descriptors_in_lem, variables_bound_lem}

module _ (ws : List ℕ) (long : table_words ≤ length ws) (good : Proper (policy_in ws)) (parts : Parts ws (policy_in ws)) where
  agreeing : Agree (policy_in ws) ws
  agreeing = parts_agree (policy_in ws) good ws parts

  counted_entries : entry_count ws ≤ most_entries
  counted_entries = omega (arith, parts.entry_count, good.entries)

  counted_descriptors : descriptor_count ws ≡ length (all_descriptors (policy_in ws))
  counted_descriptors = rw (descriptors_in_lem ws) (sym (length_map_counted (descriptor_in ws) 0 (descriptor_count ws)))

  some_entry_lem : (k : ℕ) → k < entry_count ws → proper_entry (policy_in ws) (entry_in ws k) ≡ true
  unfolding policy_in
  some_entry_lem k l = all_of_counted (entry_in ws) (proper_entry (policy_in ws)) 0 (entry_count ws) good.each k (omega arith) (omega arith)

  some_descriptor : (d : ℕ) → d < descriptor_count ws → proper_descriptor (policy_in ws) (descriptor_in ws d) ≡ true
  some_descriptor d l =
      let all : all_of (proper_descriptor (policy_in ws)) (map (descriptor_in ws) (count_up 0 (descriptor_count ws))) ≡ true = rw (descriptors_in_lem ws) at (all_descriptors_lem (policy_in ws) good) in
      all_of_counted (descriptor_in ws) (proper_descriptor (policy_in ws)) 0 (descriptor_count ws) all d (omega arith) (omega arith)

  entry_formed : (k : ℕ) → k < entry_count ws → entry_fits ws (entry_at k) ≡ true
  unfolding policy_in
  entry_formed k l =
      entry_fits_lem (policy_in ws) ws agreeing k (omega (arith, long, counted_entries))
      (block_stands entry_words ws entries_at entry_size (entry_in ws) 0 (entry_count ws)
      (λ j p q. length_entry (entry_in ws j) (entry_few (policy_in ws) (entry_in ws j) (some_entry_lem j (omega arith))))
      (padded_front ws entries_at entries_size _ parts.entries) k (omega arith) (omega arith))
      (some_entry_lem k l)

  descriptor_formed : (d : ℕ) → d < descriptor_count ws → descriptor_fits ws (descriptor_at d) ≡ true
  descriptor_formed d l =
      descriptor_fits_lem (policy_in ws) ws agreeing d (omega (arith, long, counted_descriptors, good.descriptors))
      (block_stands descriptor_words ws descriptors_at descriptor_size (descriptor_in ws) 0 (descriptor_count ws)
      (λ j p q. length_descriptor (descriptor_in ws j) (descriptor_few (policy_in ws) (descriptor_in ws j) (some_descriptor j (omega arith))))
      (rw (descriptors_in_lem ws) at (padded_front ws descriptors_at descriptors_size _ parts.descriptors)) d (omega arith) (omega arith))
      (some_descriptor d l)

  past_entries : (i : ℕ) → entry_size * entry_count ws ≤ i → i < entries_size → get_or ws (entries_at + i) 0 ≡ 0
  past_entries i p q = padded_zero ws entries_at entries_size _ parts.entries i (omega (arith, length_entries (policy_in ws) good, parts.entry_count)) q

  past_descriptors : (i : ℕ) → descriptor_size * descriptor_count ws ≤ i → i < descriptors_size → get_or ws (descriptors_at + i) 0 ≡ 0
  past_descriptors i p q = padded_zero ws descriptors_at descriptors_size _ parts.descriptors i (omega (arith, length_descriptors (policy_in ws) good, counted_descriptors)) q

  pub parts_formed : Formed ws
  unfolding policy_in
  parts_formed =
      let few_objects : object_count ws ≤ most_members = omega (arith, parts.object_count, good.objects) in
      let few_functions : function_count ws ≤ most_members = omega (arith, parts.function_count, good.functions) in
      let few_descriptors : descriptor_count ws ≤ most_descriptors = omega (arith, counted_descriptors, good.descriptors) in
      record {
        long = long;
        marked = parts.marked;
        object_domains = good.object_domains;
        subject_domains = good.subject_domains;
        few_objects = few_objects;
        few_functions = few_functions;
        few_entries = counted_entries;
        few_descriptors = few_descriptors;
        unused = parts.unused;
        objects = members_fit_lem ws objects_at (object_count ws) (object_domain_count ws) (omega arith) good.objects_below parts.objects;
        functions = members_fit_lem ws functions_at (function_count ws) (subject_domain_count ws) (omega arith) good.functions_below parts.functions;
        entry = entry_formed;
        no_entry = λ k p q i l. word_at ws (entries_at + (entry_size * k + i)) (entry_at k + i) 0 (omega arith) (past_entries (entry_size * k + i) (omega arith) (omega arith));
        descriptor = descriptor_formed;
        no_descriptor =
            λ d p q i l. word_at ws (descriptors_at + (descriptor_size * d + i)) (descriptor_at d + i) 0 (omega arith)
            (past_descriptors (descriptor_size * d + i) (omega arith) (omega arith));
        spare =
            λ i l. word_at ws (descriptors_at + (descriptor_size * most_descriptors + i)) (spare_at + i) 0 (omega arith)
            (past_descriptors (descriptor_size * most_descriptors + i) (omega arith) (omega arith));
        apart = principals_differ_lem ws (λ k l. record { room = omega (arith, long, counted_entries); fits = entry_context ws (entry_at k) (entry_formed k l) }) good.apart;
        bound = variables_bound_lem ws (λ k l. entry_bound_lem (policy_in ws) (entry_in ws k) (some_entry_lem k l));
      }
