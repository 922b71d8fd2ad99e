-- The access descriptors of an entry: how many there are, that each is proper, and that its variables are bound. Over `can_read` and `can_write`.
use mathlib.Core.Path.{◌≡◌, refl, ap}
use mathlib.Core.Bool.{Bool, true, false, cond, not, ◌&&◌, ◌||◌}
use mathlib.Core.List.{List, [], ◌∷◌, map}
use Prim.Native.Nat.{ℕ}
use lib.Dec.{eqb}
use lib.ListN.{length, length-map}
use borrow.Author.Tests.{eq-eqb, not-true, not-false}
use Rattle.paper.specs.Common.{bytes, all_of, any_of, is, same, among}
use Rattle.paper.specs.declared.Scalar.{Scalar}
use Rattle.paper.specs.declared.Scalar.TheVariants.{UidValue, GidValue}
use Rattle.paper.specs.Scalars.{is_scalar, is_variable, sort_number, sort_of}
use Rattle.paper.specs.Lists.{elements}
use Rattle.paper.specs.Listing.{object_name, subject_members, execution_context, can_read, can_write, uid_in, gid_in, namespace_in, objects_in, object_context_in}
use Rattle.paper.specs.Page.{Field}
use Rattle.paper.specs.Entries.{is_at_one, meant, value_at, fields_at, items_of, stretches_from}
use Rattle.paper.specs.Rules.{descriptors_of, domains_at, identifiers_at, in_object_contexts, is_unbound_key, is_unbound}
use Rattle.paper.specs.Policy.{every, these, Descriptor, context_of, grant_of, descriptor_of, access_of, policy_of}
use Rattle.laws.proofs.Tests.{both_true, both_left, both_right, either_right, neither_left, neither_right, same_equal}
use Rattle.laws.proofs.Counting.{all_of_weaker}
use Rattle.laws_table.specs.Proper.{is_binding, bound_sort, bound_in, proper_grant, proper_descriptor}
use Rattle.laws_file.specs.Accepted.{is_good}
use Rattle.laws_file.proofs.Stretched.{all_of_map, all_of_both, stretches_all, value_holds}
use Rattle.laws_file.proofs.Members.{members_length}
use Rattle.laws_file.proofs.Sorts.{uid_variable, gid_variable}
use Rattle.laws_file.proofs.Contexts.{ContextAt, reading, writing, KeyPlace, uid_place, gid_place, namespace_place, key_written, one_right, context_proper}

pub data AccessAt : ℕ → Type 0 where
  reads : AccessAt can_read
  writes : AccessAt can_write

context_of_lem : {a : ℕ} → AccessAt a → ContextAt (object_context_in a)
context_of_lem reads = reading
context_of_lem writes = writing

-- ---- all of them

module _ (file : List Field) (a : ℕ) (entry : List Field) where
  -- as many as the rules count
  pub accesses_counted : length (access_of file a entry) ≡ descriptors_of a entry
  unfolding access_of descriptors_of
  accesses_counted = go (is "all" (value_at a entry))
    where
      go : (t : Bool) → length (cond t (descriptor_of file a [] ∷ []) (map (descriptor_of file a) (items_of a entry))) ≡ cond t 1 (length (items_of a entry))
      go true = refl
      go false = rw length-map

  -- what holds of an item whose fields pass a test holds of each
  pub accesses_all : (test : Field → Bool) (holds : Descriptor → Bool) → ((item : List Field) → all_of test item ≡ true → holds (descriptor_of file a item) ≡ true)
      → all_of test entry ≡ true → all_of holds (access_of file a entry) ≡ true
  unfolding access_of items_of all_of
  accesses_all test holds one h = go (is "all" (value_at a entry))
    where
      go : (t : Bool) → all_of holds (cond t (descriptor_of file a [] ∷ []) (map (descriptor_of file a) (stretches_from (objects_in a) entry))) ≡ true
      go true = both_true (holds (descriptor_of file a [])) true (one [] refl) refl
      go false = all_of_map (descriptor_of file a) holds (stretches_from (objects_in a) entry)
          (all_of_weaker (all_of test) (λ item. holds (descriptor_of file a item)) one (stretches_from (objects_in a) entry)
          (stretches_all (objects_in a) test entry h))

-- ---- each is proper

-- of each domain it is said whether it is granted
pub grant_proper : (names : List (List ℕ)) (v : List ℕ) → proper_grant (length names) (grant_of names v) ≡ true
unfolding grant_of proper_grant
grant_proper names v = go (is "all" v)
  where
    go : (t : Bool) → proper_grant (length names) (cond t every (these (map (λ name. among name (elements v)) names))) ≡ true
    go true = refl
    go false = eq-eqb _ _ (length-map names _)

-- there are as many functions as names of functions
pub functions_named : (file : List Field) → length (policy_of file).functions ≡ length (identifiers_at subject_members file)
unfolding policy_of identifiers_at
functions_named file = members_length 0 (fields_at subject_members file)

module _ (file : List Field) {a : ℕ} (at : AccessAt a) where
  item_proper : (item : List Field) → all_of (is_good file) item ≡ true → proper_descriptor (policy_of file) (descriptor_of file a item) ≡ true
  unfolding proper_descriptor descriptor_of policy_of
  item_proper item h =
      rw (functions_named file)
      (both_true _ _ (context_proper file (context_of_lem at) item h) (grant_proper (domains_at object_name file) (value_at (objects_in a) item)))

  pub descriptors_proper : (entry : List Field) → all_of (is_good file) entry ≡ true → all_of (proper_descriptor (policy_of file)) (access_of file a entry) ≡ true
  descriptors_proper entry h = accesses_all file a entry (is_good file) (proper_descriptor (policy_of file)) item_proper h

-- ---- and bound

key_listed : (key : ℕ → ℕ) {a : ℕ} → AccessAt a → any_of (eqb (key (object_context_in a))) (in_object_contexts key) ≡ true
unfolding in_object_contexts any_of
key_listed key reads = rw (eq-eqb (key (object_context_in can_read)) _ refl)
key_listed key writes = either_right (eqb (key (object_context_in can_write)) (key (object_context_in can_read))) _ (rw (eq-eqb (key (object_context_in can_write)) _ refl))

-- a variable at one key
module _ (file entry : List Field) (key : ℕ → ℕ) (scalar : Scalar) (says : (v : List ℕ) → is_scalar scalar v ≡ true → is_binding (sort_of v) ≡ true → is_variable v ≡ true) where
  -- a field of an object context with this key
  abbrev binds : List ℕ → Bool
  binds v = not (is_binding (sort_of v)) || is_binding (sort_of (value_at (key execution_context) entry))

  bound_field : {a : ℕ} → AccessAt a → KeyPlace key scalar (object_context_in a) → (f : Field) → is_good file f ≡ true
      → is_unbound_key key entry f ≡ false → f.place ≡ key (object_context_in a) → binds (meant f) ≡ true
  unfolding is_unbound_key is_at_one
  bound_field at k f g u e =
      let w = key_written file k f g e in
      let n : (is_variable f.value && not (same f.value (value_at (key execution_context) entry))) ≡ false = rw (e, key_listed key at) at u in
      rw w.plain (go (is_binding (sort_of f.value)) refl (says f.value (one_right scalar f.value w.right)) n)
    where
      go : (b : Bool) → is_binding (sort_of f.value) ≡ b → (is_binding (sort_of f.value) ≡ true → is_variable f.value ≡ true)
          → (is_variable f.value && not (same f.value (value_at (key execution_context) entry))) ≡ false → (not b || is_binding (sort_of (value_at (key execution_context) entry))) ≡ true
      go true b v n =
          let s : f.value ≡ value_at (key execution_context) entry = same_equal _ _ (not-false _ (rw (v b) at n)) in
          rw s at b
      go false b v n = refl

  -- `all` is no variable
  default_binds : binds (bytes "all") ≡ true
  unfolding sort_of same is_binding sort_number
  default_binds = refl

  bound_value : {a : ℕ} → AccessAt a → KeyPlace key scalar (object_context_in a) → (item : List Field) → all_of (λ f. is_good file f && not (is_unbound_key key entry f)) item ≡ true
      → binds (value_at (key (object_context_in a)) item) ≡ true
  bound_value {a} at k item h =
      value_holds (key (object_context_in a)) (λ v. binds v ≡ true) (λ f. is_good file f && not (is_unbound_key key entry f))
      (λ f g e. bound_field at k f (both_left (is_good file f) _ g) (not-true _ (both_right (is_good file f) _ g)) e)
      item h
      (λ e. rw k.default default_binds)

module _ (file : List Field) {a : ℕ} (at : AccessAt a) (entry : List Field) where
  -- the fields of an item are good, and none is unbound
  abbrev good_in : Field → Bool
  good_in f = is_good file f && not (is_unbound entry f)

  -- so none is at a key that is one of those asked for
  key_bound : (key : ℕ → ℕ) → ((f : Field) → is_unbound entry f ≡ false → is_unbound_key key entry f ≡ false) → (f : Field) → good_in f ≡ true
      → (is_good file f && not (is_unbound_key key entry f)) ≡ true
  key_bound key asked f h = both_true _ _ (both_left (is_good file f) _ h) (ap not (asked f (not-true _ (both_right (is_good file f) _ h))))

  uid_bound : (f : Field) → is_unbound entry f ≡ false → is_unbound_key uid_in entry f ≡ false
  unfolding is_unbound
  uid_bound f h = search (neither_left, neither_right) depth 5

  gid_bound : (f : Field) → is_unbound entry f ≡ false → is_unbound_key gid_in entry f ≡ false
  unfolding is_unbound
  gid_bound f h = search (neither_left, neither_right) depth 5

  namespace_bound : (f : Field) → is_unbound entry f ≡ false → is_unbound_key namespace_in entry f ≡ false
  unfolding is_unbound
  namespace_bound f h = search (neither_left, neither_right) depth 5

  item_bound : (functions domains : List (List ℕ)) (item : List Field) → all_of good_in item ≡ true
      → bound_in (context_of functions domains execution_context entry) (descriptor_of file a item).context ≡ true
  unfolding bound_in bound_sort context_of descriptor_of
  item_bound functions domains item h =
      both_true _ _
      (both_true _ _
      (bound_value file entry uid_in UidValue uid_variable at (uid_place (context_of_lem at)) item (all_of_weaker _ _ (key_bound uid_in uid_bound) item h))
      (bound_value file entry gid_in GidValue gid_variable at (gid_place (context_of_lem at)) item (all_of_weaker _ _ (key_bound gid_in gid_bound) item h)))
      (bound_value file entry namespace_in GidValue gid_variable at (namespace_place (context_of_lem at)) item (all_of_weaker _ _ (key_bound namespace_in namespace_bound) item h))

  pub descriptors_bound_lem : (functions domains : List (List ℕ)) → all_of (is_good file) entry ≡ true → all_of (λ f. not (is_unbound entry f)) entry ≡ true
      → all_of (λ d. bound_in (context_of functions domains execution_context entry) d.context) (access_of file a entry) ≡ true
  descriptors_bound_lem functions domains g u = accesses_all file a entry good_in _ (item_bound functions domains) (all_of_both (is_good file) (λ f. not (is_unbound entry f)) entry g u)
