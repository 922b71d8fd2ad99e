-- What a well-formed table holds: its policy is proper, and its words are that policy's.
use mathlib.Core.Path.{◌≡◌, refl, sym}
use mathlib.Core.Bool.{true}
use mathlib.Core.Logic.{dite}
use mathlib.Core.List.{List, flat_map}
use Prim.Native.Nat.{ℕ, ◌+◌, ◌-◌, ◌*◌, ◌<◌, ◌≤◌}
use native.Mathlib.Decide.{dec_lt}
use native.Mathlib.Omega.{arith}
use lib.ListN.{length, get_or}
use Rattle.paper.specs.Limits.{most_descriptors, most_entries}
use Rattle.paper.specs.Common.{all_of}
use Rattle.paper.specs.Policy.{Policy}
use Rattle.paper.specs.Table.{descriptor_size, descriptors_at, descriptors_size, entries_at, entries_size, entry_size, functions_at, objects_at, spare_at}
use Rattle.paper.specs.Table.{entry_at, descriptor_at, padded, entry_words, descriptor_words, object_domain_count, subject_domain_count, object_count, function_count, entry_count}
use Rattle.paper.specs.Table.{descriptor_count, first_descriptor, descriptor_in, entry_in, policy_in}
use Rattle.laws.proofs.Stretches.{Stands, word_at, length_taken, padded_stands}
use Rattle.laws.proofs.Counting.{length_map_counted, counted_all_of}
use Rattle.laws.proofs.Blocks.{blocks_stand, zero_blocks}
use Rattle.laws_table.specs.Proper.{proper_descriptor, proper_entry, accesses_of, all_descriptors}
use Rattle.laws_table.proofs.Entries.{Agree, descriptor_few, entry_few, length_descriptor, length_entry, descriptor_proper, descriptor_stands, entry_proper}
use Rattle.laws_table.proofs.Entries.{entry_stands, entry_context}
use Rattle.laws_table.proofs.Parts.{Proper, Parts, length_entries, length_descriptors}
use Rattle.laws_table.proofs.Formed.{Formed, members_below, members_stand}
use Rattle.laws_table.proofs.Principals.{Standing, entries_differ}
use Rattle.laws_table.proofs.Accesses.{access_count, accesses, first_below, descriptors_in_lem, bound_variables}

module _ (ws : List ℕ) (f : Formed ws) where
  abbrev held : Policy
  held = policy_in ws

  objects_length : length held.objects ≡ object_count ws
  unfolding policy_in
  objects_length = length_taken ws objects_at (object_count ws) (omega (arith, f.long, f.few_objects))

  functions_length : length held.functions ≡ function_count ws
  unfolding policy_in
  functions_length = length_taken ws functions_at (function_count ws) (omega (arith, f.long, f.few_functions))

  entries_length : length held.entries ≡ entry_count ws
  unfolding policy_in
  entries_length = length_map_counted (entry_in ws) 0 (entry_count ws)

  descriptors_length : length (all_descriptors held) ≡ descriptor_count ws
  descriptors_length = rw (descriptors_in_lem ws) (length_map_counted (descriptor_in ws) 0 (descriptor_count ws))

  agree : Agree held ws
  unfolding policy_in
  agree = record { functions = sym functions_length; object_domains = refl; subject_domains = refl }

  entry_room : (k : ℕ) → k < entry_count ws → entry_at k + entry_size ≤ length ws
  entry_room k l = omega (arith, f.long, f.few_entries)

  descriptor_room : (d : ℕ) → d < descriptor_count ws → descriptor_at d + descriptor_size ≤ length ws
  descriptor_room d l = omega (arith, f.long, f.few_descriptors)

  each_descriptor : (d : ℕ) → d < descriptor_count ws → proper_descriptor held (descriptor_in ws d) ≡ true
  each_descriptor d l = descriptor_proper held ws agree d (descriptor_room d l) (f.descriptor d l)

  own_descriptors : (k : ℕ) → k < entry_count ws → all_of (proper_descriptor held) (accesses_of (entry_in ws k)) ≡ true
  own_descriptors k l =
      rw (accesses ws k)
      (counted_all_of (descriptor_in ws) _ (first_descriptor ws k) (access_count ws k) (λ d p q. each_descriptor d (omega (arith, first_below ws (entry_count ws) k l))))

  each_entry : (k : ℕ) → k < entry_count ws → proper_entry held (entry_in ws k) ≡ true
  each_entry k l = entry_proper held ws agree k (entry_room k l) (f.entry k l) (own_descriptors k l) (bound_variables ws f.bound k l)

  standing : (k : ℕ) → k < entry_count ws → Standing ws (entry_at k)
  standing k l = record { room = omega (arith, entry_room k l); fits = entry_context ws (entry_at k) (f.entry k l) }

  pub formed_proper : Proper held
  unfolding policy_in
  formed_proper = record {
    object_domains = f.object_domains;
    subject_domains = f.subject_domains;
    objects = rw objects_length f.few_objects;
    functions = rw functions_length f.few_functions;
    entries = rw entries_length f.few_entries;
    descriptors = rw descriptors_length f.few_descriptors;
    objects_below = members_below ws objects_at (object_count ws) (object_domain_count ws) (omega (arith, f.long, f.few_objects)) f.few_objects f.objects;
    functions_below = members_below ws functions_at (function_count ws) (subject_domain_count ws) (omega (arith, f.long, f.few_functions)) f.few_functions f.functions;
    each = counted_all_of (entry_in ws) (proper_entry held) 0 (entry_count ws) (λ k p q. each_entry k (omega arith));
    apart = entries_differ ws standing f.apart;
  }

  formed_entries : Stands ws entries_at (padded entries_size (flat_map entry_words held.entries))
  unfolding policy_in
  formed_entries =
      padded_stands ws entries_at entries_size _
      (blocks_stand entry_words ws entries_at entry_size (entry_in ws) 0 (entry_count ws)
      (λ k p q. length_entry (entry_in ws k) (entry_few held (entry_in ws k) (each_entry k (omega arith))))
      (λ k p q. entry_stands held ws agree k (entry_room k (omega arith)) (f.entry k (omega arith))))
      (λ i p q. zero_blocks ws entries_at entry_size (entry_count ws) most_entries (omega arith) f.no_entry i (omega (arith, length_entries held formed_proper, entries_length)) q)

  no_descriptors : (i : ℕ) → descriptor_size * descriptor_count ws ≤ i → i < descriptors_size → get_or ws (descriptors_at + i) 0 ≡ 0
  no_descriptors i p q =
      dite (dec_lt i (descriptor_size * most_descriptors))
      (λ (l : i < descriptor_size * most_descriptors). zero_blocks ws descriptors_at descriptor_size (descriptor_count ws) most_descriptors (omega arith) f.no_descriptor i p l)
      (λ (l : ¬ (i < descriptor_size * most_descriptors)). word_at ws (spare_at + (i - descriptor_size * most_descriptors)) (descriptors_at + i) 0 (omega arith)
      (f.spare (i - descriptor_size * most_descriptors) (omega arith)))

  formed_descriptors : Stands ws descriptors_at (padded descriptors_size (flat_map descriptor_words (all_descriptors held)))
  formed_descriptors =
      padded_stands ws descriptors_at descriptors_size (flat_map descriptor_words (all_descriptors held))
      (rw (descriptors_in_lem ws)
      (blocks_stand descriptor_words ws descriptors_at descriptor_size (descriptor_in ws) 0 (descriptor_count ws)
      (λ d p q. length_descriptor (descriptor_in ws d) (descriptor_few held (descriptor_in ws d) (each_descriptor d (omega arith))))
      (λ d p q. descriptor_stands held ws agree d (descriptor_room d (omega arith)) (f.descriptor d (omega arith)))))
      (λ i p q. no_descriptors i (omega (arith, length_descriptors held formed_proper, descriptors_length)) q)

  pub formed_parts : Parts ws held
  unfolding policy_in
  formed_parts = record {
    marked = f.marked;
    object_domains = refl;
    subject_domains = refl;
    object_count = sym objects_length;
    function_count = sym functions_length;
    entry_count = sym entries_length;
    unused = f.unused;
    objects = members_stand ws objects_at (object_count ws) (object_domain_count ws) (omega (arith, f.long, f.few_objects)) f.objects;
    functions = members_stand ws functions_at (function_count ws) (subject_domain_count ws) (omega (arith, f.long, f.few_functions)) f.functions;
    entries = formed_entries;
    descriptors = formed_descriptors;
  }
