-- The principals of two entries: part by part, and by their hashes, which are equal where the principals are.
use mathlib.Core.Path.{◌≡◌, refl, sym, ap, ◌∙◌}
use mathlib.Core.Bool.{Bool, true, false, ◌&&◌}
use mathlib.Core.List.{List}
use Prim.Native.Nat.{ℕ, ◌+◌, ◌*◌, ◌%◌, ◌<◌}
use native.Mathlib.Omega.{arith}
use lib.Dec.{eqb}
use lib.ListN.{get_or}
use borrow.Author.Tests.{eqb-true}
use Rattle.paper.specs.Common.{same}
use Rattle.paper.specs.Listing.{subject_of_entry, execution_context, call_context_in, uid_in, gid_in, namespace_in}
use Rattle.paper.specs.Scalars.{Sort, anyone, variable, root, user, sort_number, sort_of}
use Rattle.paper.specs.Page.{Field}
use Rattle.paper.specs.Entries.{value_at}
use Rattle.paper.specs.Rules.{same_sort, same_sort_at, same_principal}
use Rattle.laws.proofs.Tests.{same_equal, both_left, both_right}
use Rattle.file_fields.specs.declared.file.FieldAt.{FieldAt}
use Rattle.file_entries.specs.Weights.{weight_of}
use Rattle.file_entries.specs.Principals.{sorts, weight_at, sort_at, principal_hash, entry_in, AllHashed}
use Rattle.file_entries.specs.declared.Bounds.{Bounds}

-- ---- one part of a principal

module _ (place : ℕ) (fs : List Field) (v : List ℕ) (q : v ≡ value_at place fs) where
  pub weight_is : (r : ℕ) → r ≡ weight_of v → r ≡ weight_at place fs
  unfolding weight_at
  weight_is r e = e ∙ ap weight_of q

  pub sort_is : (r : ℕ) → r ≡ sort_number (sort_of v) → r ≡ sort_at place fs
  unfolding sort_at
  sort_is r e = e ∙ ap (λ (x : List ℕ). sort_number (sort_of x)) q

sort_below : (s : Sort) → sort_number s < sorts
unfolding sort_number
sort_below anyone = omega arith
sort_below variable = omega arith
sort_below root = omega arith
sort_below user = omega arith

pub sort_little : (v : List ℕ) (r : ℕ) → r ≡ sort_number (sort_of v) → r < sorts
sort_little v r e = rw e (sort_below (sort_of v))

pub sorts_are : (place : ℕ) (fs gs : List Field) (a b : ℕ) → a ≡ sort_at place fs → b ≡ sort_at place gs → eqb a b ≡ same_sort (value_at place fs) (value_at place gs)
unfolding sort_at same_sort
sorts_are place fs gs a b p q = rw (p, q) refl

-- ---- all of it

pub principal_is : (a b : List Field) (s p u g n : Bool)
    → s ≡ same (value_at subject_of_entry a) (value_at subject_of_entry b)
    → p ≡ same (value_at (call_context_in execution_context) a) (value_at (call_context_in execution_context) b)
    → u ≡ same_sort (value_at (uid_in execution_context) a) (value_at (uid_in execution_context) b)
    → g ≡ same_sort (value_at (gid_in execution_context) a) (value_at (gid_in execution_context) b)
    → n ≡ same_sort (value_at (namespace_in execution_context) a) (value_at (namespace_in execution_context) b)
    → (s && p && u && g && n) ≡ same_principal a b
unfolding same_principal same_sort_at
principal_is a b s p u g n e f h k l = rw (e, f, h, k, l) refl

pub principal_hash_is : (entry : List Field) (s p u g n : ℕ)
    → s ≡ weight_at subject_of_entry entry → p ≡ weight_at (call_context_in execution_context) entry
    → u ≡ sort_at (uid_in execution_context) entry → g ≡ sort_at (gid_in execution_context) entry
    → n ≡ sort_at (namespace_in execution_context) entry → (4 * (4 * (4 * (s + p) + u) + g) + n) % 4294967296 ≡ principal_hash entry
unfolding principal_hash
principal_hash_is entry s p u g n e f h k l = rw (e, f, h, k, l) refl

-- sorts that are the same have one number
sorts_alike : (key : ℕ → ℕ) (a b : List Field) → same_sort_at key a b ≡ true → sort_at (key execution_context) a ≡ sort_at (key execution_context) b
unfolding same_sort_at same_sort sort_at
sorts_alike key a b h = eqb-true _ _ h

same_hashes : (a b : List Field) → same_principal a b ≡ true → principal_hash a ≡ principal_hash b
unfolding same_principal principal_hash weight_at
same_hashes a b h =
    let subject : value_at subject_of_entry a ≡ value_at subject_of_entry b = same_equal _ _ (search (both_left, both_right) depth 7) in
    let pattern : value_at (call_context_in execution_context) a ≡ value_at (call_context_in execution_context) b = same_equal _ _ (search (both_left, both_right) depth 7) in
    let uid = sorts_alike uid_in a b (search (both_left, both_right) depth 7) in
    let gid = sorts_alike gid_in a b (search (both_left, both_right) depth 7) in
    let namespace = sorts_alike namespace_in a b (search (both_left, both_right) depth 7) in
    rw (subject, pattern, uid, gid, namespace) refl

module _ (t : List ℕ) (list : List FieldAt) (bounds : List Bounds) (hashes : List ℕ) (n : ℕ) (all : AllHashed t list bounds hashes n) (a b : ℕ) where
  pub other_hash : a < n → b < n → (get_or hashes a 0 ≡ get_or hashes b 0 → ⊥) → false ≡ same_principal (entry_in t list bounds a) (entry_in t list bounds b)
  other_hash p q d = go (same_principal (entry_in t list bounds a) (entry_in t list bounds b)) refl
    where
      go : (r : Bool) → same_principal (entry_in t list bounds a) (entry_in t list bounds b) ≡ r → false ≡ r
      go true e = absurd (d ((all a p).hash ∙ same_hashes (entry_in t list bounds a) (entry_in t list bounds b) e ∙ sym (all b q).hash))
      go false e = refl
