-- A file without the key means what it meant: each of its contexts has `all` for a namespace, so that no test of one ever fails.
use mathlib.Core.Path.{◌≡◌, refl, ◌∙◌}
use mathlib.Core.List.{List, [], ◌∷◌, ◌++◌}
use mathlib.Core.Bool.{Bool, true, false, cond, not, ◌&&◌, and-true, false≢true}
use Prim.Native.Nat.{ℕ, ◌+◌, ◌≤◌}
use lib.ListN.{length}
use Rattle.paper.specs.declared.Access.{Access}
use Rattle.paper.specs.declared.Access.TheVariants.{Read, Write, Call, Return}
use Rattle.paper.specs.Common.{bytes, same, all_of, any_of}
use Rattle.paper.specs.Limits.{table_words}
use Rattle.paper.specs.Listing.{execution_context, can_read, can_write, namespace_in, object_context_in}
use Rattle.paper.specs.Scalars.{Sort, anyone, variable, root, user, sort_number, sort_of}
use Rattle.paper.specs.Page.{Field, fields}
use Rattle.paper.specs.Entries.{is_at_one, entries_of}
use Rattle.paper.specs.Rules.{in_object_contexts}
use Rattle.paper.specs.Policy.{Context, Descriptor, Entry, Policy, context_of, descriptor_of, access_of, entry_of, policy_of}
use Rattle.paper.specs.Match.{Moment, sort_fits, sorts_fit, entry_matches, allocated_sort_fits, allocated_sorts_fit, fits_allocated, is_anyone, sorts_anyone, fits_static, context_fits_object}
use Rattle.paper.specs.Match.{descriptor_grants, some_descriptor_grants}
use Rattle.paper.specs.Verdict.{entry_grants, by_entries, verdict_of}
use Rattle.paper.specs.Promises.{file_of, read_leaves, judge_event, judge_answer}
use Rattle.laws.proofs.Tests.{both_true, both_left, both_right}
use Rattle.laws.proofs.Counting.{all_of_weaker, all_of_append, all_of_append_left, all_of_append_right}
use Rattle.laws_file.proofs.Stretched.{all_of_map, stretches_all, value_holds}
use Rattle.laws_file.proofs.Contexts.{ContextAt, execution, reading, writing, namespace_place}
use Rattle.laws_file.proofs.Descriptors.{AccessAt, reads, writes, accesses_all}
use Rattle.laws_file.proofs.Reader.{read_judged}
use Rattle.demands.specs.Before.{without_namespace, matches_before, fits_before, descriptor_grants_before, grants_before, by_entries_before, verdict_before, judged_before}

-- ---- a context with `all` for its namespace

is_anyone_lem : (s : Sort) → is_anyone s ≡ true → s ≡ anyone
unfolding is_anyone sort_number
is_anyone_lem anyone h = refl
is_anyone_lem variable h = absurd (false≢true h)
is_anyone_lem root h = absurd (false≢true h)
is_anyone_lem user h = absurd (false≢true h)

unfoldable plain : Context → Bool
plain c = is_anyone c.namespace

module _ (c : Context) (all : plain c ≡ true) where
  no_sort : c.namespace ≡ anyone
  unfolding plain
  no_sort = is_anyone_lem c.namespace all

  sorts_before : (m : Moment) → sorts_fit c m ≡ (sort_fits c.uid m.uid && sort_fits c.gid m.gid)
  unfolding sorts_fit
  sorts_before m = rw no_sort (unfold sort_fits in and-true _)

  allocated_before : (m allocation : Moment)
      → allocated_sorts_fit c m allocation ≡ (allocated_sort_fits c.uid m.uid allocation.uid && allocated_sort_fits c.gid m.gid allocation.gid)
  unfolding allocated_sorts_fit
  allocated_before m allocation = rw no_sort (unfold allocated_sort_fits in and-true _)

  anyone_before : sorts_anyone c ≡ (is_anyone c.uid && is_anyone c.gid)
  unfolding sorts_anyone plain
  anyone_before = rw all (and-true _)

  fits_before_lem : (p : Policy) (m allocation : Moment) → context_fits_object p c m allocation ≡ fits_before p c m allocation
  unfolding context_fits_object fits_static fits_allocated fits_before
  fits_before_lem p m allocation = rw (anyone_before, allocated_before m allocation)

-- ---- a policy of such contexts

any_same : {A : Type 0} (test f g : A → Bool) → ((x : A) → test x ≡ true → f x ≡ g x) → (xs : List A) → all_of test xs ≡ true → any_of f xs ≡ any_of g xs
unfolding all_of any_of
any_same test f g alike [] h = refl
any_same test f g alike (x ∷ xs) h = rw (alike x (both_left (test x) _ h), any_same test f g alike xs (both_right (test x) _ h))

unfoldable plain_entry : Entry → Bool
plain_entry e = plain e.context && all_of (λ d. plain d.context) (e.reads ++ e.writes)

module _ (p : Policy) (m allocation : Moment) where
  descriptors_before : (d : ℕ) (xs : List Descriptor) → all_of (λ x. plain x.context) xs ≡ true
      → some_descriptor_grants p xs d m allocation ≡ any_of (descriptor_grants_before p d m allocation) xs
  unfolding some_descriptor_grants descriptor_grants descriptor_grants_before
  descriptors_before d xs h = any_same {A = Descriptor} (λ x. plain x.context) _ _ (λ x k. rw (fits_before_lem x.context k p m allocation)) xs h

  module _ (e : Entry) (h : plain_entry e ≡ true) where
    matches_before_lem : entry_matches p e m ≡ matches_before p e m
    unfolding entry_matches matches_before plain_entry
    matches_before_lem = rw (sorts_before e.context (both_left _ _ h) m)

    grants_before_lem : (a : Access) → entry_grants p e a m allocation ≡ grants_before p e a m allocation
    unfolding entry_grants grants_before plain_entry
    grants_before_lem (Read o) = descriptors_before _ e.reads (all_of_append_left _ e.reads e.writes (both_right (plain e.context) _ h))
    grants_before_lem (Write o) = descriptors_before _ e.writes (all_of_append_right _ e.reads e.writes (both_right (plain e.context) _ h))
    grants_before_lem (Call f) = refl
    grants_before_lem (Return f) = refl

  entries_before : (a : Access) (k : ℕ) (matched : Bool) (es : List Entry) → all_of plain_entry es ≡ true
      → by_entries p a m allocation k matched es ≡ by_entries_before p a m allocation k matched es
  unfolding by_entries by_entries_before all_of
  entries_before a k matched [] h = refl
  entries_before a k matched (e ∷ es) h =
      let own : plain_entry e ≡ true = both_left (plain_entry e) _ h in
      rw (matches_before_lem e own, grants_before_lem e own a, entries_before a (k + 1) (cond (matches_before p e m) true matched) es (both_right (plain_entry e) _ h))

  judged_before_lem : (operation target : ℕ) → all_of plain_entry p.entries ≡ true → judge_event p operation target m allocation ≡ judged_before p operation target m allocation
  unfolding judge_event judged_before verdict_of verdict_before
  judged_before_lem operation target h = rw (entries_before _ 0 false p.entries h)

-- ---- the policy of a file without the key

-- no field stands at the place of a `namespace`
abbrev keyless : Field → Bool
keyless f = not (is_at_one (namespace_in execution_context ∷ in_object_contexts namespace_in) f)

not_there : {c : ℕ} → ContextAt c → (f : Field) → keyless f ≡ true → f.place ≡ namespace_in c → ⊥
unfolding is_at_one any_of in_object_contexts
not_there execution f h e = false≢true (rw e at h)
not_there reading f h e = false≢true (rw e at h)
not_there writing f h e = false≢true (rw e at h)

all_sort : is_anyone (sort_of (bytes "all")) ≡ true
unfolding is_anyone sort_number sort_of same
all_sort = refl

module _ (functions domains : List (List ℕ)) where
  plain_context : {c : ℕ} → ContextAt c → (fs : List Field) → all_of keyless fs ≡ true → plain (context_of functions domains c fs) ≡ true
  unfolding plain context_of
  plain_context {c} at fs h =
      value_holds (namespace_in c) (λ v. is_anyone (sort_of v) ≡ true) keyless (λ f k e. absurd (not_there at f k e)) fs h
      (λ _. rw (namespace_place at).default all_sort)

module _ (file : List Field) where
  plain_accesses : {a : ℕ} → AccessAt a → ContextAt (object_context_in a) → (entry : List Field) → all_of keyless entry ≡ true
      → all_of (λ d. plain d.context) (access_of file a entry) ≡ true
  unfolding descriptor_of
  plain_accesses {a} which at entry h = accesses_all file a entry keyless _ (λ item k. plain_context _ _ at item k) h

  plain_entry_lem : (entry : List Field) → all_of keyless entry ≡ true → plain_entry (entry_of file entry) ≡ true
  unfolding plain_entry entry_of
  plain_entry_lem entry h =
      both_true _ _ (plain_context _ _ execution entry h)
      (all_of_append _ (access_of file can_read entry) (access_of file can_write entry) (plain_accesses reads reading entry h) (plain_accesses writes writing entry h))

  plain_policy : without_namespace file ≡ true → all_of plain_entry (policy_of file).entries ≡ true
  unfolding without_namespace policy_of entries_of
  plain_policy h = all_of_map (entry_of file) plain_entry (entries_of file) (all_of_weaker (all_of keyless) _ plain_entry_lem (entries_of file) (stretches_all _ keyless file h))

pub verdicts_before : (text table : List ℕ) (file : List Field) → file_of text ≡ fields file → without_namespace file ≡ true → table_words ≤ length table
    → (operation target : ℕ) (m allocation : Moment)
    → judge_answer (read_leaves text table) operation target m allocation ≡ judged_before (policy_of file) operation target m allocation
verdicts_before text table file read without room operation target m allocation =
    read_judged text table file read room operation target m allocation ∙ judged_before_lem (policy_of file) m allocation operation target (plain_policy file without)
