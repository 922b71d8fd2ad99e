-- The descriptors of an entry, of all entries, and "object variables bound as 10 asks".
use mathlib.Core.Path.{◌≡◌, refl, ◌∙◌}
use mathlib.Core.Bool.{Bool, true}
use mathlib.Core.List.{List, map, flat_map, map-append}
use Prim.Native.Nat.{ℕ, zero, suc, ◌+◌, ◌-◌, ◌<◌, ◌≤◌}
use native.Mathlib.Nat.{not-suc-le-zero, eq-or-lt_of_le}
use mathlib.Core.Logic.{⊎_elim}
use native.Mathlib.Omega.{arith}
use lib.Dec.{eqb, eqb-suc-suc, eqb-suc-zero}
use lib.ListN.{get_or}
use Rattle.paper.specs.Common.{count_up, all_of}
use Rattle.paper.specs.Policy.{Descriptor}
use Rattle.paper.specs.Scalars.{sort_number}
use Rattle.paper.specs.Table.{uid_at, gid_at, namespace_at, variable_word, entry_at, descriptor_at, sort_in, entry_count, descriptor_count, read_count, write_count, first_descriptor, context_in}
use Rattle.paper.specs.Table.{descriptor_in, entry_in}
use Rattle.paper.specs.Table.{policy_in, bound_at, bound_by, variables_bound}
use Rattle.laws.proofs.Tests.{up_to_at, up_to_all}
use Rattle.laws.proofs.Counting.{counted_append, counted_runs, all_of_counted, counted_all_of}
use Rattle.laws_table.specs.Proper.{is_binding, bound_sort, bound_in, accesses_of, all_descriptors}

binding : (w : ℕ) → eqb w variable_word ≡ is_binding (sort_in w)
unfolding is_binding sort_number sort_in
binding zero = refl
binding (suc zero) = refl
binding (suc (suc zero)) = refl
binding (suc (suc (suc w))) = eqb-suc-suc (suc (suc w)) 0 ∙ eqb-suc-zero (suc w)

module _ (ws : List ℕ) where
  bound_at_lem : (entry at key : ℕ) → bound_at ws entry at key ≡ bound_sort (sort_in (get_or ws (entry + key) 0)) (sort_in (get_or ws (at + key) 0))
  unfolding bound_at bound_sort
  bound_at_lem entry at key = rw (binding (get_or ws (at + key) 0), binding (get_or ws (entry + key) 0))

  bound_by_lem : (entry at : ℕ) → bound_by ws entry at ≡ bound_in (context_in ws entry) (context_in ws at)
  unfolding bound_by bound_in context_in
  bound_by_lem entry at = rw (bound_at_lem entry at uid_at, bound_at_lem entry at gid_at, bound_at_lem entry at namespace_at)

  -- how many descriptors entry k has
  abbrev pub access_count : ℕ → ℕ
  access_count k = read_count ws k + write_count ws k

  pub accesses : (k : ℕ) → accesses_of (entry_in ws k) ≡ map (descriptor_in ws) (count_up (first_descriptor ws k) (access_count k))
  unfolding accesses_of entry_in
  accesses k = rw (counted_append (first_descriptor ws k) (read_count ws k) (write_count ws k), map-append)

  first_more : (k : ℕ) → first_descriptor ws (suc k) ≡ first_descriptor ws k + access_count k
  unfolding first_descriptor
  first_more k = omega arith

  first_none : first_descriptor ws 0 ≡ 0
  unfolding first_descriptor
  first_none = refl

  -- a descriptor of an entry is one of all
  pub first_below : (n k : ℕ) → k < n → first_descriptor ws k + access_count k ≤ first_descriptor ws n
  first_below zero k h = absurd (not-suc-le-zero h)
  first_below (suc n) k h =
      ⊎_elim
      (λ (e : suc k ≡ suc n). rw (← e, first_more k) (omega arith))
      (λ (l : suc k < suc n). omega (arith, first_below n k (omega arith), first_more n))
      (eq-or-lt_of_le h)

  all_accesses : (n : ℕ) → flat_map accesses_of (map (entry_in ws) (count_up 0 n)) ≡ map (descriptor_in ws) (count_up 0 (first_descriptor ws n))
  all_accesses n = counted_runs (entry_in ws) accesses_of (descriptor_in ws) (first_descriptor ws) access_count first_none first_more accesses n

  -- all descriptors of the policy in a table, in order
  pub descriptors_in_lem : all_descriptors (policy_in ws) ≡ map (descriptor_in ws) (count_up 0 (descriptor_count ws))
  unfolding all_descriptors policy_in
  descriptors_in_lem = all_accesses (entry_count ws)

  -- ---- an entry's descriptors are bound by it

  abbrev bound_to : ℕ → Descriptor → Bool
  bound_to k d = bound_in (entry_in ws k).context d.context

  abbrev bound_in_lem : ℕ → Bool
  bound_in_lem k = all_of (bound_to k) (accesses_of (entry_in ws k))

  pub variables_bound_lem : ((k : ℕ) → k < entry_count ws → bound_in_lem k ≡ true) → variables_bound ws ≡ true
  unfolding variables_bound entry_in descriptor_in
  variables_bound_lem h = up_to_all _ (entry_count ws) (λ k l. up_to_all _ (access_count k) (λ i m.
      rw (bound_by_lem (entry_at k) (descriptor_at (first_descriptor ws k + i)))
      (all_of_counted (descriptor_in ws) (bound_to k) (first_descriptor ws k) (access_count k) (rw (accesses k) at (h k l)) (first_descriptor ws k + i) (omega arith) (omega arith))))

  pub bound_variables : variables_bound ws ≡ true → (k : ℕ) → k < entry_count ws → bound_in_lem k ≡ true
  unfolding variables_bound entry_in descriptor_in
  bound_variables h k l =
      let each : (j : ℕ) → j < access_count k → bound_by ws (entry_at k) (descriptor_at (first_descriptor ws k + j)) ≡ true =
      up_to_at _ (access_count k) (up_to_at _ (entry_count ws) h k l) in
      rw (accesses k) (counted_all_of (descriptor_in ws) (bound_to k) (first_descriptor ws k) (access_count k) (λ i p q.
      let e : first_descriptor ws k + (i - first_descriptor ws k) ≡ i = omega arith in
      rw (← bound_by_lem (entry_at k) (descriptor_at i)) (rw e at (each (i - first_descriptor ws k) (omega arith)))))
