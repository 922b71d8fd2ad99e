-- An entry and its 44 words, a descriptor and its 32, read back both ways.
use mathlib.Core.Path.{◌≡◌, refl, sym, ap}
use mathlib.Core.Bool.{true}
use mathlib.Core.List.{List, [], ◌∷◌, ◌++◌, map}
use Prim.Native.Nat.{ℕ, ◌+◌, ◌-◌, ◌<◌, ◌≤◌}
use native.Mathlib.Omega.{arith}
use borrow.Author.Tests.{eqb-true, eq-eqb}
use lib.Dec.{ltb}
use lib.ListN.{length, get_or, length-append}
use Rattle.paper.specs.Limits.{most_domains, most_elements, most_members}
use Rattle.paper.specs.Common.{all_of, count_up}
use Rattle.paper.specs.Policy.{Descriptor, Entry, Policy}
use Rattle.paper.specs.Table.{grant_size, calls_at, descriptor_size, descriptor_tail_at, descriptor_tail_size, entry_size, entry_spare_at, entry_tail_at, entry_tail_size, grant_at, reads_at}
use Rattle.paper.specs.Table.{returns_at, subject_at, writes_at}
use Rattle.paper.specs.Table.{entry_at, descriptor_at, context_words, grant_words, entry_words, descriptor_words, object_domain_count, subject_domain_count, function_count}
use Rattle.paper.specs.Table.{read_count, write_count, first_descriptor, context_in, grant_in, entry_in, descriptor_in, context_fits, entry_fits, descriptor_fits}
use Rattle.laws.proofs.Tests.{both_true, both_left, both_right}
use Rattle.laws.proofs.Stretches.{Stands, word_at, stands_word, stands_left, stands_right, stands_both, stands_more, padded_front, padded_zero, padded_stands}
use Rattle.laws.proofs.Stretches.{length_padded, zeros_at, zeros_all}
use Rattle.laws.proofs.Counting.{length_map_counted}
use Rattle.laws_table.specs.Proper.{proper_context, proper_grant, proper_descriptor, proper_entry, accesses_of, bound_in}
use Rattle.laws_table.proofs.Contexts.{length_context, context_few, proper_read_back, context_read, context_stands, context_proper, context_fits_lem}
use Rattle.laws_table.proofs.Grants.{length_grant, grant_read, grant_stands, grant_proper, grant_fits_lem}

-- ---- the parts of a descriptor's stretch, and of an entry's

pub record DescriptorParts (ws : List ℕ) (at : ℕ) (d : Descriptor) : Type 0 where
  pub context : Stands ws at (context_words d.context)
  pub objects : Stands ws (at + grant_at) (grant_words d.objects)
  pub rest : (i : ℕ) → i < descriptor_tail_size → get_or ws (at + descriptor_tail_at + i) 0 ≡ 0

pub record EntryParts (ws : List ℕ) (at : ℕ) (e : Entry) : Type 0 where
  pub context : Stands ws at (context_words e.context)
  pub subject : get_or ws (at + subject_at) 0 ≡ e.subject
  pub reads : get_or ws (at + reads_at) 0 ≡ length e.reads
  pub writes : get_or ws (at + writes_at) 0 ≡ length e.writes
  pub unused : get_or ws (at + entry_spare_at) 0 ≡ 0
  pub calls : Stands ws (at + calls_at) (grant_words e.calls)
  pub returns : Stands ws (at + returns_at) (grant_words e.returns)
  pub rest : (i : ℕ) → i < entry_tail_size → get_or ws (at + entry_tail_at + i) 0 ≡ 0

module _ (d : Descriptor) (few : length d.context.pattern ≤ most_elements) where
  descriptor_used : length (context_words d.context ++ grant_words d.objects) ≡ descriptor_tail_at
  descriptor_used = rw (length-append, length_context d.context few, length_grant d.objects)

  pub length_descriptor : length (descriptor_words d) ≡ descriptor_size
  unfolding descriptor_words
  length_descriptor = length_padded descriptor_size _ (rw descriptor_used (omega arith))

  module _ (ws : List ℕ) (at : ℕ) where
    pub descriptor_parts : Stands ws at (descriptor_words d) → DescriptorParts ws at d
    unfolding descriptor_words
    descriptor_parts s =
        let t : Stands ws at (context_words d.context ++ grant_words d.objects) = padded_front ws at descriptor_size _ s in
        record {
          context = stands_left ws at _ _ t;
          objects = stands_right ws at (at + grant_at) (context_words d.context) _ (ap (λ (n : ℕ). at + n) (length_context d.context few)) t;
          rest =
              λ i l. word_at ws (at + (descriptor_tail_at + i)) (at + descriptor_tail_at + i) 0 (omega arith)
              (padded_zero ws at descriptor_size _ s (descriptor_tail_at + i) (omega (arith, descriptor_used)) (omega arith));
        }

    pub descriptor_whole : DescriptorParts ws at d → Stands ws at (descriptor_words d)
    unfolding descriptor_words
    descriptor_whole p =
        padded_stands ws at descriptor_size _
        (stands_both ws at (at + grant_at) _ _ (ap (λ (n : ℕ). at + n) (length_context d.context few)) p.context p.objects)
        (λ i a b. word_at ws (at + descriptor_tail_at + (i - descriptor_tail_at)) (at + i) 0 (omega (arith, descriptor_used)) (p.rest (i - descriptor_tail_at) (omega (arith, descriptor_used))))

module _ (e : Entry) (few : length e.context.pattern ≤ most_elements) where
  abbrev head : List ℕ
  head = context_words e.context

  abbrev middle : List ℕ
  middle = e.subject ∷ length e.reads ∷ length e.writes ∷ 0 ∷ []

  abbrev grants : List ℕ
  grants = grant_words e.calls ++ grant_words e.returns

  length_grants : length grants ≡ grant_size + grant_size
  length_grants = rw (length-append, length_grant e.calls, length_grant e.returns)

  entry_used : length (head ++ (middle ++ grants)) ≡ entry_tail_at
  entry_used = omega (arith, length-append head (middle ++ grants), length_context e.context few, length_grants)

  pub length_entry : length (entry_words e) ≡ entry_size
  unfolding entry_words
  length_entry = length_padded entry_size _ (rw entry_used (omega arith))

  module _ (ws : List ℕ) (at : ℕ) where
    context_end : at + length head ≡ at + subject_at
    context_end = omega (arith, length_context e.context few)

    calls_end : at + calls_at + length (grant_words e.calls) ≡ at + returns_at
    calls_end = omega (arith, length_grant e.calls)

    pub entry_parts : Stands ws at (entry_words e) → EntryParts ws at e
    unfolding entry_words
    entry_parts s =
        let t : Stands ws at (head ++ (middle ++ grants)) = padded_front ws at entry_size _ s in
        let m : Stands ws (at + subject_at) (middle ++ grants) = stands_right ws at (at + subject_at) head _ context_end t in
        let g : Stands ws (at + calls_at) grants = stands_right ws (at + subject_at) (at + calls_at) middle _ (omega arith) m in
        record {
          context = stands_left ws at head _ t;
          subject = stands_word ws (at + subject_at) 0 (at + subject_at) _ m (omega arith) (omega arith);
          reads = stands_word ws (at + subject_at) 1 (at + reads_at) _ m (omega arith) (omega arith);
          writes = stands_word ws (at + subject_at) 2 (at + writes_at) _ m (omega arith) (omega arith);
          unused = stands_word ws (at + subject_at) 3 (at + entry_spare_at) _ m (omega arith) (omega arith);
          calls = stands_left ws (at + calls_at) _ _ g;
          returns = stands_right ws (at + calls_at) (at + returns_at) (grant_words e.calls) _ calls_end g;
          rest = λ i l. word_at ws (at + (entry_tail_at + i)) (at + entry_tail_at + i) 0 (omega arith) (padded_zero ws at entry_size _ s (entry_tail_at + i) (omega (arith, entry_used)) (omega arith));
        }

    pub entry_whole : EntryParts ws at e → Stands ws at (entry_words e)
    unfolding entry_words
    entry_whole p =
        padded_stands ws at entry_size _
        (stands_both ws at (at + subject_at) head _ context_end p.context
        (stands_more ws (at + subject_at) (at + reads_at) _ _ (omega arith) p.subject
        (stands_more ws (at + reads_at) (at + writes_at) _ _ (omega arith) p.reads
        (stands_more ws (at + writes_at) (at + entry_spare_at) _ _ (omega arith) p.writes
        (stands_more ws (at + entry_spare_at) (at + calls_at) _ _ (omega arith) p.unused
        (stands_both ws (at + calls_at) (at + returns_at) (grant_words e.calls) _ calls_end p.calls p.returns))))))
        (λ i a b. word_at ws (at + entry_tail_at + (i - entry_tail_at)) (at + i) 0 (omega (arith, entry_used)) (p.rest (i - entry_tail_at) (omega (arith, entry_used))))

-- ---- a table's counts are a policy's

pub record Agree (p : Policy) (ws : List ℕ) : Type 0 where
  pub functions : function_count ws ≡ length p.functions
  pub object_domains : object_domain_count ws ≡ p.object_domains
  pub subject_domains : subject_domain_count ws ≡ p.subject_domains

pub descriptor_few : (p : Policy) (d : Descriptor) → proper_descriptor p d ≡ true → length d.context.pattern ≤ most_elements
unfolding proper_descriptor
descriptor_few p d h = context_few (length p.functions) p.subject_domains d.context (search both_left)

pub entry_few : (p : Policy) (e : Entry) → proper_entry p e ≡ true → length e.context.pattern ≤ most_elements
unfolding proper_entry
entry_few p e h = context_few (length p.functions) p.subject_domains e.context (search both_left depth 6)

pub entry_descriptors : (p : Policy) (e : Entry) → proper_entry p e ≡ true → all_of (proper_descriptor p) (accesses_of e) ≡ true
unfolding proper_entry
entry_descriptors p e h = search (both_left, both_right) depth 7

pub entry_bound_lem : (p : Policy) (e : Entry) → proper_entry p e ≡ true → all_of (λ d. bound_in e.context d.context) (accesses_of e) ≡ true
unfolding proper_entry
entry_bound_lem p e h = search both_right depth 7

pub entry_context : (ws : List ℕ) (at : ℕ) → entry_fits ws at ≡ true → context_fits ws at ≡ true
unfolding entry_fits
entry_context ws at h = search both_left depth 7

module _ (p : Policy) (ws : List ℕ) (agree : Agree p ws) where
  -- ---- descriptor k

  module _ (k : ℕ) (room : descriptor_at k + descriptor_size ≤ length ws) where
    pub descriptor_read : (d : Descriptor) → p.object_domains ≤ most_domains → length p.functions ≤ most_members → proper_descriptor p d ≡ true
        → Stands ws (descriptor_at k) (descriptor_words d) → descriptor_in ws k ≡ d
    unfolding descriptor_in proper_descriptor
    descriptor_read d fit listed good s =
        let few : length d.context.pattern ≤ most_elements = descriptor_few p d good in
        let parts : DescriptorParts ws (descriptor_at k) d = descriptor_parts d few ws (descriptor_at k) s in
        rw (
          context_read ws (descriptor_at k) d.context (omega arith) few (proper_read_back (length p.functions) p.subject_domains d.context listed (search both_left)) parts.context,
          agree.object_domains,
          grant_read ws (descriptor_at k + grant_at) p.object_domains d.objects fit (search both_right) parts.objects,
        )

    pub descriptor_proper : descriptor_fits ws (descriptor_at k) ≡ true → proper_descriptor p (descriptor_in ws k) ≡ true
    unfolding descriptor_in descriptor_fits proper_descriptor
    descriptor_proper h =
        rw (← agree.functions, ← agree.object_domains, ← agree.subject_domains)
        (both_true _ _ (context_proper ws (descriptor_at k) (omega arith) (search both_left)) (grant_proper ws (descriptor_at k + grant_at) (object_domain_count ws)))

    pub descriptor_stands : descriptor_fits ws (descriptor_at k) ≡ true → Stands ws (descriptor_at k) (descriptor_words (descriptor_in ws k))
    unfolding descriptor_in descriptor_fits
    descriptor_stands h =
        descriptor_whole (descriptor_in ws k) (descriptor_few p (descriptor_in ws k) (descriptor_proper h)) ws (descriptor_at k)
        (record {
          context = context_stands ws (descriptor_at k) (omega arith) (search both_left);
          objects = grant_stands ws (descriptor_at k + grant_at) (object_domain_count ws) (search (both_left, both_right));
          rest = zeros_at ws (descriptor_at k + descriptor_tail_at) descriptor_tail_size (search both_right);
        })

    pub descriptor_fits_lem : Stands ws (descriptor_at k) (descriptor_words (descriptor_in ws k)) → proper_descriptor p (descriptor_in ws k) ≡ true
        → descriptor_fits ws (descriptor_at k) ≡ true
    unfolding descriptor_in descriptor_fits proper_descriptor
    descriptor_fits_lem s h =
        let parts : DescriptorParts ws (descriptor_at k) (descriptor_in ws k) = descriptor_parts (descriptor_in ws k) (descriptor_few p (descriptor_in ws k) h) ws (descriptor_at k) s in
        both_true _ _
        (both_true _ _
        (context_fits_lem ws (descriptor_at k) (omega arith) parts.context (rw (agree.functions, agree.subject_domains) (search both_left)))
        (grant_fits_lem ws (descriptor_at k + grant_at) (object_domain_count ws) parts.objects))
        (zeros_all ws (descriptor_at k + descriptor_tail_at) descriptor_tail_size parts.rest)

  -- ---- entry k

  module _ (k : ℕ) (room : entry_at k + entry_size ≤ length ws) where
    pub entry_read : (e : Entry) → p.subject_domains ≤ most_domains → length p.functions ≤ most_members → proper_entry p e ≡ true → Stands ws (entry_at k) (entry_words e)
        → map (descriptor_in ws) (count_up (first_descriptor ws k) (length e.reads)) ≡ e.reads
        → map (descriptor_in ws) (count_up (first_descriptor ws k + length e.reads) (length e.writes)) ≡ e.writes
        → entry_in ws k ≡ e
    unfolding entry_in proper_entry
    entry_read e fit listed good s reads writes =
        let few : length e.context.pattern ≤ most_elements = entry_few p e good in
        let parts : EntryParts ws (entry_at k) e = entry_parts e few ws (entry_at k) s in
        rw (
          context_read ws (entry_at k) e.context (omega arith) few (proper_read_back (length p.functions) p.subject_domains e.context listed (search both_left depth 6)) parts.context,
          parts.subject,
          parts.reads,
          parts.writes,
          reads,
          writes,
          agree.subject_domains,
          grant_read ws (entry_at k + calls_at) p.subject_domains e.calls fit (search (both_left, both_right) depth 6) parts.calls,
          grant_read ws (entry_at k + returns_at) p.subject_domains e.returns fit (search (both_left, both_right) depth 6) parts.returns,
        )

    pub entry_proper : entry_fits ws (entry_at k) ≡ true → all_of (proper_descriptor p) (accesses_of (entry_in ws k)) ≡ true
        → all_of (λ d. bound_in (entry_in ws k).context d.context) (accesses_of (entry_in ws k)) ≡ true → proper_entry p (entry_in ws k) ≡ true
    unfolding entry_in entry_fits proper_entry
    entry_proper h good bound =
        let c : proper_context (length p.functions) p.subject_domains (context_in ws (entry_at k)) ≡ true =
        rw (← agree.functions, ← agree.subject_domains) (context_proper ws (entry_at k) (omega arith) (search both_left depth 7)) in
        let s : ltb (get_or ws (entry_at k + subject_at) 0) p.subject_domains ≡ true = rw (← agree.subject_domains) (search (both_left, both_right) depth 7) in
        let g : (at : ℕ) → proper_grant p.subject_domains (grant_in ws at (subject_domain_count ws)) ≡ true =
        λ at. rw (← agree.subject_domains) (grant_proper ws at (subject_domain_count ws)) in
        both_true _ _ (both_true _ _ (both_true _ _ (both_true _ _ (both_true _ _ c s) (g (entry_at k + calls_at))) (g (entry_at k + returns_at))) good) bound

    pub entry_stands : entry_fits ws (entry_at k) ≡ true → Stands ws (entry_at k) (entry_words (entry_in ws k))
    unfolding entry_in entry_fits
    entry_stands h =
        let c : context_fits ws (entry_at k) ≡ true = search both_left depth 7 in
        entry_whole (entry_in ws k) (context_few (function_count ws) (subject_domain_count ws) (context_in ws (entry_at k)) (context_proper ws (entry_at k) (omega arith) c)) ws (entry_at k)
        (record {
          context = context_stands ws (entry_at k) (omega arith) c;
          subject = refl;
          reads = sym (length_map_counted (descriptor_in ws) _ (read_count ws k));
          writes = sym (length_map_counted (descriptor_in ws) _ (write_count ws k));
          unused = eqb-true _ _ (search (both_left, both_right) depth 7);
          calls = grant_stands ws (entry_at k + calls_at) (subject_domain_count ws) (search (both_left, both_right) depth 7);
          returns = grant_stands ws (entry_at k + returns_at) (subject_domain_count ws) (search (both_left, both_right) depth 7);
          rest = zeros_at ws (entry_at k + entry_tail_at) entry_tail_size (search both_right);
        })

    pub entry_fits_lem : Stands ws (entry_at k) (entry_words (entry_in ws k)) → proper_entry p (entry_in ws k) ≡ true → entry_fits ws (entry_at k) ≡ true
    unfolding entry_in entry_fits proper_entry
    entry_fits_lem s h =
        let parts : EntryParts ws (entry_at k) (entry_in ws k) = entry_parts (entry_in ws k) (entry_few p (entry_in ws k) h) ws (entry_at k) s in
        let c : context_fits ws (entry_at k) ≡ true = context_fits_lem ws (entry_at k) (omega arith) parts.context (rw (agree.functions, agree.subject_domains) (search both_left depth 7)) in
        let t : ltb (get_or ws (entry_at k + subject_at) 0) (subject_domain_count ws) ≡ true = rw agree.subject_domains (search (both_left, both_right) depth 7) in
        both_true _ _
        (both_true _ _
        (both_true _ _ (both_true _ _ (both_true _ _ c t) (eq-eqb _ _ parts.unused)) (grant_fits_lem ws (entry_at k + calls_at) (subject_domain_count ws) parts.calls))
        (grant_fits_lem ws (entry_at k + returns_at) (subject_domain_count ws) parts.returns))
        (zeros_all ws (entry_at k + entry_tail_at) entry_tail_size parts.rest)
