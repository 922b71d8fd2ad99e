-- What `well_formed` asks, fact by fact.
use mathlib.Core.Path.{◌≡◌}
use mathlib.Core.Bool.{Bool, true, cond}
use mathlib.Core.List.{List}
use Prim.Native.Nat.{ℕ, ◌+◌, ◌<◌, ◌≤◌}
use native.Mathlib.Omega.{arith}
use borrow.Author.Tests.{eqb-true, leb-true, eq-eqb, le-leb}
use lib.Dec.{eqb, ltb}
use lib.ListN.{length, get_or, take, drop}
use Rattle.paper.specs.Limits.{most_descriptors, most_domains, most_entries, most_members, table_words}
use Rattle.paper.specs.Common.{up_to, all_of}
use Rattle.paper.specs.Table.{descriptor_size, entry_size, functions_at, head_spare_at, head_spare_size, objects_at, spare_at, spare_size}
use Rattle.paper.specs.Table.{mark, entry_at, descriptor_at, padded, object_domain_count, subject_domain_count, object_count, function_count, entry_count, descriptor_count, zeros}
use Rattle.paper.specs.Table.{counts_fit, members_fit, entry_fits, descriptor_fits, entries_fit, descriptors_fit, principals_differ, variables_bound, well_formed}
use Rattle.laws.proofs.Tests.{both_left, both_right, up_to_first, up_to_rest, up_to_both}
use Rattle.laws.proofs.Stretches.{Stands, stands_taken, length_taken, padded_zero, padded_stands, zeros_at, zeros_all}
use Rattle.laws.proofs.Counting.{all_of_at, all_of_each}

pub record Formed (ws : List ℕ) : Type 0 where
  pub long : table_words ≤ length ws
  pub marked : get_or ws 0 0 ≡ mark
  pub object_domains : object_domain_count ws ≤ most_domains
  pub subject_domains : subject_domain_count ws ≤ most_domains
  pub few_objects : object_count ws ≤ most_members
  pub few_functions : function_count ws ≤ most_members
  pub few_entries : entry_count ws ≤ most_entries
  pub few_descriptors : descriptor_count ws ≤ most_descriptors
  pub unused : (i : ℕ) → i < head_spare_size → get_or ws (head_spare_at + i) 0 ≡ 0
  pub objects : members_fit ws objects_at (object_count ws) (object_domain_count ws) ≡ true
  pub functions : members_fit ws functions_at (function_count ws) (subject_domain_count ws) ≡ true
  pub entry : (k : ℕ) → k < entry_count ws → entry_fits ws (entry_at k) ≡ true
  pub no_entry : (k : ℕ) → entry_count ws ≤ k → k < most_entries → (i : ℕ) → i < entry_size → get_or ws (entry_at k + i) 0 ≡ 0
  pub descriptor : (d : ℕ) → d < descriptor_count ws → descriptor_fits ws (descriptor_at d) ≡ true
  pub no_descriptor : (d : ℕ) → descriptor_count ws ≤ d → d < most_descriptors → (i : ℕ) → i < descriptor_size → get_or ws (descriptor_at d + i) 0 ≡ 0
  pub spare : (i : ℕ) → i < spare_size → get_or ws (spare_at + i) 0 ≡ 0
  pub apart : principals_differ ws ≡ true
  pub bound : variables_bound ws ≡ true

module _ (ws : List ℕ) where
  -- n blocks that fit, and zeros in the others up to m
  module _ (fits : ℕ → Bool) (place : ℕ → ℕ) (size n m : ℕ) where
    abbrev blocks_fit_lem : Bool
    blocks_fit_lem = up_to (λ k. cond (ltb k n) (fits k) (zeros ws (place k) size)) m

    block_fits : n ≤ m → blocks_fit_lem ≡ true → (k : ℕ) → k < n → fits k ≡ true
    block_fits few h k l = up_to_first fits (λ k. zeros ws (place k) size) n m h k l (omega arith)

    no_block : blocks_fit_lem ≡ true → (k : ℕ) → n ≤ k → k < m → (i : ℕ) → i < size → get_or ws (place k + i) 0 ≡ 0
    no_block h k p q = zeros_at ws (place k) size (up_to_rest fits (λ k. zeros ws (place k) size) n m h k p q)

    all_blocks : ((k : ℕ) → k < n → fits k ≡ true) → ((k : ℕ) → n ≤ k → k < m → (i : ℕ) → i < size → get_or ws (place k + i) 0 ≡ 0) → blocks_fit_lem ≡ true
    all_blocks f g = up_to_both fits (λ k. zeros ws (place k) size) n m (λ k l m. f k l) (λ k p q. zeros_all ws (place k) size (g k p q))

  abbrev entry_fits_lem : ℕ → Bool
  entry_fits_lem k = entry_fits ws (entry_at k)

  abbrev descriptor_fits_lem : ℕ → Bool
  descriptor_fits_lem d = descriptor_fits ws (descriptor_at d)

  pub formed : well_formed ws ≡ true → Formed ws
  unfolding well_formed counts_fit entries_fit descriptors_fit
  formed h =
      let entries : blocks_fit_lem entry_fits_lem entry_at entry_size (entry_count ws) most_entries ≡ true = search (both_left, both_right) depth 17 in
      let descriptors : blocks_fit_lem descriptor_fits_lem descriptor_at descriptor_size (descriptor_count ws) most_descriptors ≡ true = search (both_left, both_right) depth 17 in
      let few_entries : entry_count ws ≤ most_entries = leb-true _ _ (search (both_left, both_right) depth 17) in
      let few_descriptors : descriptor_count ws ≤ most_descriptors = leb-true _ _ (search (both_left, both_right) depth 17) in
      record {
        long = leb-true _ _ (search both_left depth 17);
        marked = eqb-true _ _ (search (both_left, both_right) depth 17);
        object_domains = leb-true _ _ (search (both_left, both_right) depth 17);
        subject_domains = leb-true _ _ (search (both_left, both_right) depth 17);
        few_objects = leb-true _ _ (search (both_left, both_right) depth 17);
        few_functions = leb-true _ _ (search (both_left, both_right) depth 17);
        few_entries = few_entries;
        few_descriptors = few_descriptors;
        unused = zeros_at ws head_spare_at head_spare_size (search (both_left, both_right) depth 17);
        objects = search (both_left, both_right) depth 17;
        functions = search (both_left, both_right) depth 17;
        entry = block_fits entry_fits_lem entry_at entry_size (entry_count ws) most_entries few_entries entries;
        no_entry = no_block entry_fits_lem entry_at entry_size (entry_count ws) most_entries entries;
        descriptor = block_fits descriptor_fits_lem descriptor_at descriptor_size (descriptor_count ws) most_descriptors few_descriptors descriptors;
        no_descriptor = no_block descriptor_fits_lem descriptor_at descriptor_size (descriptor_count ws) most_descriptors descriptors;
        spare = zeros_at ws spare_at spare_size (search (both_left, both_right) depth 17);
        apart = search (both_left, both_right) depth 17;
        bound = search both_right depth 17;
      }

  counts_fit_lem : Formed ws → counts_fit ws ≡ true
  unfolding counts_fit
  counts_fit_lem f =
      rw (le-leb _ _ f.object_domains, le-leb _ _ f.subject_domains, le-leb _ _ f.few_objects, le-leb _ _ f.few_functions, le-leb _ _ f.few_entries, le-leb _ _ f.few_descriptors)

  pub is_formed : Formed ws → well_formed ws ≡ true
  unfolding well_formed entries_fit descriptors_fit
  is_formed f =
      let entries = all_blocks entry_fits_lem entry_at entry_size (entry_count ws) most_entries f.entry f.no_entry in
      let descriptors = all_blocks descriptor_fits_lem descriptor_at descriptor_size (descriptor_count ws) most_descriptors f.descriptor f.no_descriptor in
      rw (le-leb _ _ f.long, eq-eqb _ _ f.marked, counts_fit_lem f, zeros_all ws head_spare_at head_spare_size f.unused, f.objects, f.functions)
      (rw (entries, descriptors, zeros_all ws spare_at spare_size f.spare, f.apart) f.bound)

  -- ---- objects and functions

  module _ (at members domains : ℕ) (room : at + members ≤ length ws) where
    abbrev member_words : List ℕ
    member_words = take members (drop at ws)

    member_word : (i : ℕ) → i < members → get_or ws (at + i) 0 ≡ get_or member_words i 0
    member_word i l = (stands_taken ws at members).reads i (rw (length_taken ws at members room) l)

    pub members_below : members ≤ most_members → members_fit ws at members domains ≡ true → all_of (λ d. ltb d domains) member_words ≡ true
    unfolding members_fit
    members_below few h = all_of_each _ 0 member_words (λ i l.
        let m : i < members = rw (length_taken ws at members room) at l in
        rw (← member_word i m) (up_to_first (λ i. ltb (get_or ws (at + i) 0) domains) (λ i. eqb (get_or ws (at + i) 0) 0) members most_members h i m (omega arith)))

    pub members_stand : members_fit ws at members domains ≡ true → Stands ws at (padded most_members member_words)
    unfolding members_fit
    members_stand h = padded_stands ws at most_members member_words (stands_taken ws at members) (λ i p q.
        eqb-true _ _ (up_to_rest (λ i. ltb (get_or ws (at + i) 0) domains) (λ i. eqb (get_or ws (at + i) 0) 0) members most_members h i (rw (length_taken ws at members room) at p) q))

    pub members_fit_lem : all_of (λ d. ltb d domains) member_words ≡ true → Stands ws at (padded most_members member_words) → members_fit ws at members domains ≡ true
    unfolding members_fit
    members_fit_lem below s =
        up_to_both (λ i. ltb (get_or ws (at + i) 0) domains) (λ i. eqb (get_or ws (at + i) 0) 0) members most_members
        (λ i l m. rw (member_word i l) (all_of_at (λ d. ltb d domains) 0 member_words below i (rw (length_taken ws at members room) l)))
        (λ i p q. eq-eqb _ _ (padded_zero ws at most_members member_words s i (rw (length_taken ws at members room) p) q))
