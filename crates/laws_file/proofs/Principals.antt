-- Two entries with one principal in the policy have the same principal in the file: names are known by their numbers, and a list by its elements.
use mathlib.Core.Path.{◌≡◌, refl, sym, ◌∙◌}
use mathlib.Core.Bool.{Bool, true, false, not, false≢true}
use mathlib.Core.List.{List, [], ◌∷◌, map}
use Prim.Native.Nat.{ℕ, ◌≤◌}
use lib.ListN.{length}
use borrow.Author.Tests.{eq-eqb, not-true, not-false}
use Rattle.paper.specs.Common.{all_of, any_of, among}
use Rattle.paper.specs.Limits.{most_members}
use Rattle.paper.specs.declared.Scalar.TheVariants.{PatternElement, DomainName}
use Rattle.paper.specs.declared.Value.TheVariants.{One}
use Rattle.paper.specs.Scalars.{sort_of, sort_number}
use Rattle.paper.specs.Lists.{elements}
use Rattle.paper.specs.Listing.{subject_name, subject_members, subject_of_entry, execution_context, call_context_in, uid_in, gid_in, namespace_in, listing, row_at, bare_is_none}
use Rattle.paper.specs.Page.{Field}
use Rattle.paper.specs.Entries.{is_at, meant, value_at}
use Rattle.paper.specs.Rules.{domains_at, identifiers_at, names_unknown, is_unbound, same_sort, same_sort_at, same_principal}
use Rattle.paper.specs.Policy.{context_of, entry_of}
use Rattle.laws.proofs.Tests.{both_true, both_left, both_right, same_refl, same_equal}
use Rattle.laws_page.proofs.ListText.{same_elements}
use Rattle.laws_table.specs.Proper.{no_two, principal_of, share_principal}
use Rattle.laws_file.specs.Accepted.{is_good, is_good_entry}
use Rattle.laws_file.proofs.Stretched.{value_holds}
use Rattle.laws_file.proofs.Names.{one_number, one_pattern}
use Rattle.laws_file.proofs.Contexts.{execution, good, field_written, pattern_value}

-- what no two have before, no two have behind
no_two_map : {A B : Type 0} (f : A → B) (twins : A → A → Bool) (alike : B → B → Bool) (test : A → Bool)
    → ((x y : A) → test x ≡ true → test y ≡ true → alike (f x) (f y) ≡ true → twins x y ≡ true)
    → (xs : List A) → all_of test xs ≡ true → no_two twins xs ≡ true → no_two alike (map f xs) ≡ true
unfolding no_two all_of
no_two_map f twins alike test back [] t h = refl
no_two_map f twins alike test back (x ∷ xs) t h =
    both_true _ _ (apart xs (both_right (test x) _ t) (both_left (all_of (λ y. not (twins x y)) xs) _ h))
    (no_two_map f twins alike test back xs (both_right (test x) _ t) (both_right (all_of (λ y. not (twins x y)) xs) _ h))
  where
    one : (y : _) → test y ≡ true → not (twins x y) ≡ true → not (alike (f x) (f y)) ≡ true
    one y s n = go (alike (f x) (f y)) refl
      where
        go : (b : Bool) → alike (f x) (f y) ≡ b → not b ≡ true
        go true e = absurd (false≢true (sym (not-true _ n) ∙ back x y (both_left (test x) _ t) s e))
        go false e = refl

    apart : (ys : List _) → all_of test ys ≡ true → all_of (λ y. not (twins x y)) ys ≡ true → all_of (λ y. not (alike (f x) y)) (map f ys) ≡ true
    apart [] s n = refl
    apart (y ∷ ys) s n = both_true _ _ (one y (both_left (test y) _ s) (both_left (not (twins x y)) _ n)) (apart ys (both_right (test y) _ s) (both_right (not (twins x y)) _ n))

-- the parts of `is_good_entry`
pub record GoodEntry (file entry : List Field) : Type 0 where
  pub subject : any_of (is_at subject_of_entry) entry ≡ true
  pub fields : all_of (is_good file) entry ≡ true
  pub bound : all_of (λ f. not (is_unbound entry f)) entry ≡ true

pub good_entry : (file entry : List Field) → is_good_entry file entry ≡ true → GoodEntry file entry
unfolding is_good_entry
good_entry file entry h = record { subject = search (both_left, both_right); fields = search (both_left, both_right); bound = search (both_left, both_right) }

module _ (file : List Field) where
  abbrev domain_names : List (List ℕ)
  domain_names = domains_at subject_name file

  subject_field : (f : Field) → is_good file f ≡ true → f.place ≡ subject_of_entry → among (meant f) domain_names ≡ true
  unfolding names_unknown row_at listing bare_is_none
  subject_field f h e =
      let g = good file f h in
      let w = field_written file (One DomainName) f subject_of_entry e refl refl refl h in
      rw w.plain (not-false _ (rw e at g.knows))

  -- the subject of an entry is known
  pub subject_known : (entry : List Field) → GoodEntry file entry → among (value_at subject_of_entry entry) domain_names ≡ true
  subject_known entry g =
      value_holds subject_of_entry (λ v. among v domain_names ≡ true) (is_good file) subject_field entry g.fields
      (λ n. absurd (false≢true (sym n ∙ g.subject)))

  same_principal_lem : length (identifiers_at subject_members file) ≤ most_members → (a b : List Field) → is_good_entry file a ≡ true → is_good_entry file b ≡ true
      → share_principal (entry_of file a) (entry_of file b) ≡ true → same_principal b a ≡ true
  unfolding share_principal principal_of entry_of context_of same_principal same_sort_at same_sort
  same_principal_lem few a b p q h =
      let ga = good_entry file a p in
      let gb = good_entry file b q in
      let e : principal_of (entry_of file a) ≡ principal_of (entry_of file b) = same_equal _ _ h in
      let va = pattern_value file execution a ga.fields in
      let vb = pattern_value file execution b gb.fields in
      let s : value_at subject_of_entry a ≡ value_at subject_of_entry b = one_number domain_names _ _ (subject_known a ga) (subject_known b gb) (cc) in
      let xs : elements (value_at (call_context_in execution_context) a) ≡ elements (value_at (call_context_in execution_context) b) =
      one_pattern (identifiers_at subject_members file) domain_names few _ _ va.knows vb.knows (cc) in
      let c : value_at (call_context_in execution_context) a ≡ value_at (call_context_in execution_context) b = same_elements PatternElement PatternElement _ _ va.right vb.right xs in
      let u : sort_number (sort_of (value_at (uid_in execution_context) a)) ≡ sort_number (sort_of (value_at (uid_in execution_context) b)) = cc in
      let g : sort_number (sort_of (value_at (gid_in execution_context) a)) ≡ sort_number (sort_of (value_at (gid_in execution_context) b)) = cc in
      let n : sort_number (sort_of (value_at (namespace_in execution_context) a)) ≡ sort_number (sort_of (value_at (namespace_in execution_context) b)) = cc in
      rw (s, c, same_refl (value_at subject_of_entry b), same_refl (value_at (call_context_in execution_context) b), eq-eqb _ _ (sym u), eq-eqb _ _ (sym g), eq-eqb _ _ (sym n))

  -- no two entries of the policy have one principal
  pub principals_apart : length (identifiers_at subject_members file) ≤ most_members → (es : List (List Field)) → all_of (is_good_entry file) es ≡ true
      → no_two (λ a b. same_principal b a) es ≡ true → no_two share_principal (map (entry_of file) es) ≡ true
  principals_apart few es h n = no_two_map (entry_of file) (λ a b. same_principal b a) share_principal (is_good_entry file) (same_principal_lem few) es h n
