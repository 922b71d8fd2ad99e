-- The filled text has the same policy: the maps are as they were, and each entry means what it meant.
use mathlib.Core.Path.{◌≡◌, refl, ◌∙◌}
use mathlib.Core.List.{List, [], ◌∷◌, map, flat_map}
use mathlib.Core.Bool.{Bool, true, false, ◌&&◌}
use Prim.Native.Nat.{ℕ, ◌<◌}
use native.Mathlib.Omega.{arith}
use Rattle.paper.specs.Common.{all_of}
use Rattle.paper.specs.Listing.{object_name, object_members, subject_name, subject_members, principal, can_read, can_write}
use Rattle.paper.specs.Page.{Field, fields, page_of}
use Rattle.paper.specs.Entries.{fields_at, up_to_next, stretches_from, entries_of}
use Rattle.paper.specs.Rules.{domains_at, identifiers_at}
use Rattle.paper.specs.Policy.{descriptor_of, access_of, entry_of, policy_of}
use Rattle.laws.proofs.Tests.{both_left, both_right}
use Rattle.laws_page.specs.Right.{in_listing_order}
use Rattle.laws_file.proofs.Stretched.{all_of_both}
use Rattle.laws_file.proofs.EachRule.{page_in_order}
use Rattle.laws_filled.specs.Fields.{entry_rest, entry_fields, written, filled_fields}
use Rattle.laws_filled.proofs.Says.{filled_same, policy_says}
use Rattle.laws_filled.proofs.Past.{none_at, none_bare, none_both, none_here, rest_none, fields_front}
use Rattle.laws_filled.proofs.SamePolicy.{bare_above, entry_same, entries_written}
use Rattle.laws_filled.proofs.Rows.{maps_first, reads_bare, writes_bare}

entry_none : (p : ℕ) (e : List Field) → p < 8 → none_at p (entry_fields e) ≡ true
unfolding entry_fields
entry_none p e l = none_bare p 8 (entry_rest e) (λ (z : 8 ≡ p). omega arith) (rest_none p e (λ q k z. omega arith))

entries_none : (p : ℕ) (es : List (List Field)) → p < 8 → none_at p (flat_map entry_fields es) ≡ true
unfolding flat_map
entries_none p [] l = none_here p
entries_none p (e ∷ es) l = none_both p (entry_fields e) (flat_map entry_fields es) (entry_none p e l) (entries_none p es l)

pub map_where : {A B C : Type 0} (h : A → B) (g : B → C) (f : A → C) (test : A → Bool) → ((x : A) → test x ≡ true → g (h x) ≡ f x) → (xs : List A)
    → all_of test xs ≡ true → map g (map h xs) ≡ map f xs
unfolding all_of
map_where h g f test e [] k = refl
map_where h g f test e (x ∷ xs) k = rw (e x (both_left (test x) _ k), map_where h g f test e xs (both_right (test x) _ k)) refl

-- above the items of every entry stands a bare field
pub all_bare : (fs : List Field) → in_listing_order 0 false fs ≡ true → all_of (λ e. bare_above can_read e && bare_above can_write e) (entries_of fs) ≡ true
unfolding entries_of
all_bare fs o = all_of_both (bare_above can_read) (bare_above can_write) (stretches_from principal fs) (reads_bare fs o) (writes_bare fs o)

module _ (fs : List Field) (o : in_listing_order 0 false fs ≡ true) where
  -- the fields of a map
  pub fields_written : (p : ℕ) → p < 8 → fields_at p (written fs) ≡ fields_at p fs
  unfolding written
  fields_written p l =
      fields_front p (up_to_next principal fs) (flat_map entry_fields (entries_of fs)) (entries_none p (entries_of fs) l) ∙ maps_first p l 0 false fs o

  pub domains_written : (p : ℕ) → p < 8 → domains_at p (written fs) ≡ domains_at p fs
  unfolding domains_at
  domains_written p l = rw (fields_written p l) refl

  pub identifiers_written : (p : ℕ) → p < 8 → identifiers_at p (written fs) ≡ identifiers_at p fs
  unfolding identifiers_at
  identifiers_written p l = rw (fields_written p l) refl

  -- an entry, among the names of the file
  descriptor_written : (a : ℕ) (i : List Field) → descriptor_of (written fs) a i ≡ descriptor_of fs a i
  unfolding descriptor_of
  descriptor_written a i =
      rw (identifiers_written subject_members (omega arith), domains_written subject_name (omega arith), domains_written object_name (omega arith)) refl

  access_written : (a : ℕ) (e : List Field) → access_of (written fs) a e ≡ access_of fs a e
  unfolding access_of
  access_written a e = let d : descriptor_of (written fs) a ≡ descriptor_of fs a = λ i. λ x. descriptor_written a x i in rw d refl

  entry_written : (e : List Field) → entry_of (written fs) e ≡ entry_of fs e
  unfolding entry_of
  entry_written e =
      rw (
        identifiers_written subject_members (omega arith),
        domains_written subject_name (omega arith),
        access_written can_read e,
        access_written can_write e,
      ) refl

  -- every entry
  entries_same : map (entry_of (written fs)) (entries_of (written fs)) ≡ map (entry_of fs) (entries_of fs)
  entries_same =
      rw (entries_written fs)
      (map_where entry_fields (entry_of (written fs)) (entry_of fs) (λ e. bare_above can_read e && bare_above can_write e)
      (λ e h. entry_written (entry_fields e) ∙ entry_same fs e (both_left (bare_above can_read e) _ h) (both_right (bare_above can_read e) _ h))
      (entries_of fs) (all_bare fs o))

  policy_written : policy_of (written fs) ≡ policy_of fs
  unfolding policy_of
  policy_written =
      rw (
        domains_written object_name (omega arith),
        domains_written subject_name (omega arith),
        fields_written object_members (omega arith),
        fields_written subject_members (omega arith),
        entries_same,
      ) refl

-- the policy of the filled text is that of the text
pub filled_policy : (t : List ℕ) (fs : List Field) → page_of t ≡ fields fs → policy_of (filled_fields fs) ≡ policy_of fs
filled_policy t fs page = filled_same policy_of policy_says fs ∙ policy_written fs (page_in_order t fs page)
