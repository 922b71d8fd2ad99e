-- The policy of an accepted file is proper: what each part of `proper` asks, from the page and from the rules.
use mathlib.Core.Path.{◌≡◌, refl}
use mathlib.Core.Bool.{Bool, true, false, not, ◌&&◌}
use mathlib.Core.List.{List, [], ◌∷◌, map, flat_map}
use Prim.Native.Nat.{ℕ, ◌≤◌}
use native.Mathlib.Omega.{arith}
use lib.Dec.{ltb}
use lib.ListN.{length, length-map, length-append}
use borrow.Author.Tests.{lt-ltb}
use Rattle.paper.specs.Common.{all_of, any_of}
use Rattle.paper.specs.Limits.{most_members}
use Rattle.paper.specs.Listing.{object_name, object_members, subject_name, subject_members, principal, subject_of_entry, can_call, can_return, can_read, can_write}
use Rattle.paper.specs.Page.{Field, fields, page_of}
use Rattle.paper.specs.Entries.{is_at, value_at, fields_at, entries_of}
use Rattle.paper.specs.Rules.{one_at, descriptors_in, long_pattern, domains_at, names_unknown, is_unbound, ruled}
use Rattle.paper.specs.Policy.{Descriptor, access_of, entry_of, member_domains, policy_of}
use Rattle.laws.proofs.Tests.{both_true}
use Rattle.laws.proofs.Counting.{all_of_weaker, all_of_append}
use Rattle.laws_page.specs.Right.{is_right, is_numbered, in_listing_order}
use Rattle.laws_table.specs.Proper.{accesses_of, all_descriptors, bound_in, proper_descriptor, proper_entry, proper}
use Rattle.laws_table.proofs.Parts.{Proper, is_proper}
use Rattle.laws_file.specs.Accepted.{total, is_filled, is_good, is_good_entry}
use Rattle.laws_file.proofs.Stretched.{all_of_map, all_of_both, stretches_all, stretches_counted, fields_counted}
use Rattle.laws_file.proofs.Ordered.{fields_filled, subjects_said, members_few, objects_only, subjects_only}
use Rattle.laws_file.proofs.Names.{number_below}
use Rattle.laws_file.proofs.Members.{members_below, members_counted}
use Rattle.laws_file.proofs.Contexts.{execution, context_proper}
use Rattle.laws_file.proofs.Descriptors.{reads, writes, accesses_counted, grant_proper, functions_named, descriptors_proper, descriptors_bound_lem}
use Rattle.laws_file.proofs.Principals.{good_entry, subject_known, principals_apart}
use Rattle.laws_file.proofs.EachRule.{page_right, page_numbered, page_in_order}
use Rattle.laws_file.proofs.Kept.{NoLine, no_line_lem, Counted, counted, all_known_lem, all_bound_lem, all_apart_lem}

-- ---- an entry

module _ (file : List Field) where
  -- what holds of the descriptors of both accesses
  both_accesses : (entry : List Field) (test : Descriptor → Bool) → all_of test (access_of file can_read entry) ≡ true
      → all_of test (access_of file can_write entry) ≡ true → all_of test (accesses_of (entry_of file entry)) ≡ true
  unfolding accesses_of entry_of
  both_accesses entry test r w = all_of_append test (access_of file can_read entry) (access_of file can_write entry) r w

  entry_proper : (entry : List Field) → is_good_entry file entry ≡ true → proper_entry (policy_of file) (entry_of file entry) ≡ true
  unfolding proper_entry entry_of policy_of
  entry_proper entry h =
      let g = good_entry file entry h in
      rw (functions_named file)
      (both_true _ _
      (both_true _ _
      (both_true _ _
      (both_true _ _
      (both_true _ _
      (context_proper file execution entry g.fields)
      (lt-ltb _ _ (number_below (domains_at subject_name file) (value_at subject_of_entry entry) (subject_known file entry g))))
      (grant_proper (domains_at subject_name file) (value_at can_call entry)))
      (grant_proper (domains_at subject_name file) (value_at can_return entry)))
      (both_accesses entry (proper_descriptor (policy_of file)) (descriptors_proper file reads entry g.fields) (descriptors_proper file writes entry g.fields)))
      (both_accesses entry (λ d. bound_in (entry_of file entry).context d.context) (descriptors_bound_lem file reads entry _ _ g.fields g.bound)
      (descriptors_bound_lem file writes entry _ _ g.fields g.bound)))

  -- an entry has as many descriptors as the rules count, and so has a policy
  pub entry_counted : (entry : List Field) → length (accesses_of (entry_of file entry)) ≡ descriptors_in entry
  unfolding accesses_of entry_of descriptors_in
  entry_counted entry = rw (length-append, accesses_counted file can_read entry, accesses_counted file can_write entry)

  pub all_counted : (es : List (List Field)) → length (flat_map accesses_of (map (entry_of file) es)) ≡ total descriptors_in es
  unfolding flat_map total
  all_counted [] = refl
  all_counted (e ∷ es) = rw (length-append, entry_counted e, all_counted es)

-- ---- a file

pub domains_counted : (place : ℕ) (fs : List Field) → length (domains_at place fs) ≡ total (one_at place) fs
unfolding domains_at
domains_counted place fs = rw length-map (fields_counted place fs)

pub entries_counted : (fs : List Field) → length (policy_of fs).entries ≡ total (one_at principal) fs
unfolding policy_of entries_of
entries_counted fs = rw length-map (stretches_counted principal fs)

module _ (fs : List Field) (numbered : all_of is_numbered fs ≡ true) (right : all_of is_right fs ≡ true) (ordered : in_listing_order 0 false fs ≡ true) (none : NoLine fs) where
  abbrev limits : Counted fs
  limits = counted fs numbered none.limits

  all_good : all_of (is_good fs) fs ≡ true
  unfolding is_good
  all_good =
      all_of_both (λ f. is_right f && is_filled f && not (long_pattern f)) (λ f. not (names_unknown fs f)) fs
      (all_of_both (λ f. is_right f && is_filled f) (λ f. not (long_pattern f)) fs
      (all_of_both is_right is_filled fs right (fields_filled 0 false fs ordered))
      limits.patterns)
      (all_known_lem fs numbered none)

  entries_good : all_of (is_good_entry fs) (entries_of fs) ≡ true
  unfolding is_good_entry entries_of
  entries_good =
      all_of_both (λ e. any_of (is_at subject_of_entry) e && all_of (is_good fs) e) (λ e. all_of (λ f. not (is_unbound e f)) e) (entries_of fs)
      (all_of_both (λ e. any_of (is_at subject_of_entry) e) (all_of (is_good fs)) (entries_of fs)
      (subjects_said 0 false fs ordered right)
      (stretches_all principal (is_good fs) fs all_good))
      (all_bound_lem fs numbered none)

  -- the domains of a map's members
  map_below : (name members : ℕ) → length (fields_at members fs) ≤ length (fields_at name fs) → all_of (λ d. ltb d (length (domains_at name fs))) (member_domains 0 (fields_at members fs)) ≡ true
  unfolding domains_at
  map_below name members h = members_below (length (domains_at name fs)) 0 (fields_at members fs) (rw length-map (omega arith))

  few_functions_lem : length (policy_of fs).functions ≤ most_members
  unfolding policy_of
  few_functions_lem = rw (members_counted subject_members 0 fs) limits.functions

  parts : Proper (policy_of fs)
  unfolding policy_of all_descriptors entries_of
  parts = record {
    object_domains = rw (domains_counted object_name fs) limits.object_domains;
    subject_domains = rw (domains_counted subject_name fs) limits.subject_domains;
    objects = rw (members_counted object_members 0 fs) limits.objects;
    functions = few_functions_lem;
    entries = rw (entries_counted fs) limits.entries;
    descriptors = rw (all_counted fs (entries_of fs)) limits.descriptors;
    objects_below = map_below object_name object_members (members_few object_name object_members objects_only (λ e. omega arith) (λ e. omega arith) fs ordered);
    functions_below = map_below subject_name subject_members (members_few subject_name subject_members subjects_only (λ e. omega arith) (λ e. omega arith) fs ordered);
    each = all_of_map (entry_of fs) (proper_entry (policy_of fs)) (entries_of fs) (all_of_weaker (is_good_entry fs) _ (entry_proper fs) (entries_of fs) entries_good);
    apart = principals_apart fs (rw (← functions_named fs) few_functions_lem) (entries_of fs) entries_good (all_apart_lem fs numbered none);
  }

-- the policy of a file that holds to the rules is proper
pub file_proper : (t : List ℕ) (fs : List Field) → page_of t ≡ fields fs → ruled fs ≡ fields fs → proper (policy_of fs) ≡ true
file_proper t fs p r = is_proper (policy_of fs) (parts fs (page_numbered t fs p) (page_right t fs p) (page_in_order t fs p) (no_line_lem fs fs r).0)
