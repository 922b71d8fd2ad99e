-- 8: the places of the four sorts of field that name something are apart, so the tests of the definition tell each of them.
use mathlib.Core.Path.{◌≡◌, refl, ap}
use mathlib.Core.List.{List}
use mathlib.Core.Bool.{Bool, true, false, cond, not, ◌&&◌}
use Prim.Native.Nat.{ℕ}
use lib.Dec.{eqb}
use borrow.Author.Tests.{eqb-true, eq-eqb, not-true}
use Rattle.paper.specs.Common.{all_of, any_of, among}
use Rattle.paper.specs.Lists.{elements}
use Rattle.paper.specs.Listing.{subject_name, object_name, subject_of_entry}
use Rattle.paper.specs.Page.{Field}
use Rattle.paper.specs.Entries.{is_at, is_at_one, call_contexts}
use Rattle.paper.specs.Rules.{subject_lists, object_lists, domains_at, element_names, all_known, names_unknown, unknown_name}
use Rattle.laws.proofs.Tests.{both_left, both_right}
use Rattle.laws_page.specs.Right.{Ascending}
use Rattle.laws_file.specs.Rules.{NamesUnknown, UnknownName}
use Rattle.laws_file.specs.Rules as rules
use Rattle.laws_file.proofs.Smallest.{Finds}
use Rattle.laws_file.proofs.Stands.{not_both, any_has, all_has, among_has, has_among, unknown_lacking, lacking_unknown}
use Rattle.laws_file.proofs.Counts.{tested}

-- a field at one of some places is not where none of them is
elsewhere : (places : List ℕ) (test : ℕ → Bool) (f : Field) → all_of (λ p. not (test p)) places ≡ true → is_at_one places f ≡ true → test f.place ≡ false
unfolding is_at_one
elsewhere places test f apart e =
    let r = any_has (eqb f.place) places e in
    let p : f.place ≡ r.0 = eqb-true f.place r.0 r.2 in
    rw p (not-true (test r.0) (all_has (λ q. not (test q)) r.0 places apart r.1))

lists_entry : all_of (λ p. not (eqb p subject_of_entry)) subject_lists ≡ true
unfolding all_of subject_lists
lists_entry = refl

objects_entry : all_of (λ p. not (eqb p subject_of_entry)) object_lists ≡ true
unfolding all_of object_lists
objects_entry = refl

objects_lists : all_of (λ p. not (any_of (eqb p) subject_lists)) object_lists ≡ true
unfolding all_of any_of object_lists subject_lists
objects_lists = refl

patterns_entry : all_of (λ p. not (eqb p subject_of_entry)) call_contexts ≡ true
unfolding all_of call_contexts
patterns_entry = refl

patterns_lists : all_of (λ p. not (any_of (eqb p) subject_lists)) call_contexts ≡ true
unfolding all_of any_of call_contexts subject_lists
patterns_lists = refl

patterns_objects : all_of (λ p. not (any_of (eqb p) object_lists)) call_contexts ≡ true
unfolding all_of any_of call_contexts object_lists
patterns_objects = refl

-- the test, by the four sorts
abbrev chain : List Field → Field → Bool → Bool → Bool → Bool → Bool
chain file f entry lists objects patterns =
    cond entry (not (among f.value (domains_at subject_name file)))
    (cond lists (not (all_known (domains_at subject_name file) (elements f.value)))
    (cond objects (not (all_known (domains_at object_name file) (elements f.value)))
    (patterns && not (all_known (element_names file) (elements f.value)))))

tells : (file before : List Field) (f : Field) → names_unknown file f ≡ true → NamesUnknown file before f
unfolding names_unknown element_names
tells file before f e = go (is_at subject_of_entry f) refl (is_at_one subject_lists f) refl (is_at_one object_lists f) refl e
  where
    go : (x : Bool) → is_at subject_of_entry f ≡ x → (y : Bool) → is_at_one subject_lists f ≡ y → (z : Bool) → is_at_one object_lists f ≡ z
        → chain file f x y z (is_at_one call_contexts f) ≡ true → NamesUnknown file before f
    go true p y q z r h =
        rules.NamesUnknown.entry_subject (eqb-true f.place subject_of_entry p)
        (λ k. not_both (has_among f.value (domains_at subject_name file) k) (not-true (among f.value (domains_at subject_name file)) h))
    go false p true q z r h = rules.NamesUnknown.listed_subject q (unknown_lacking (domains_at subject_name file) (elements f.value) (not-true _ h))
    go false p false q true r h = rules.NamesUnknown.listed_object r (unknown_lacking (domains_at object_name file) (elements f.value) (not-true _ h))
    go false p false q false r h =
        rules.NamesUnknown.element (both_left (is_at_one call_contexts f) _ h)
        (unknown_lacking (element_names file) (elements f.value) (not-true _ (both_right (is_at_one call_contexts f) _ h)))

lacked : (known names : List (List ℕ)) → rules.Lacking known names → not (all_known known names) ≡ true
lacked known names l = ap not (lacking_unknown known names l)

told : (file before : List Field) (f : Field) → NamesUnknown file before f → names_unknown file f ≡ true
unfolding names_unknown element_names is_at_one
told file before f (rules.NamesUnknown.entry_subject p l) = rw (eq-eqb f.place subject_of_entry p) (go (among f.value (domains_at subject_name file)) refl)
  where
    go : (t : Bool) → among f.value (domains_at subject_name file) ≡ t → not t ≡ true
    go true e = absurd (l (among_has f.value (domains_at subject_name file) e))
    go false e = refl
told file before f (rules.NamesUnknown.listed_subject p l) =
    rw (elsewhere subject_lists (λ q. eqb q subject_of_entry) f lists_entry p, p) (lacked (domains_at subject_name file) (elements f.value) l)
told file before f (rules.NamesUnknown.listed_object p l) =
    rw (elsewhere object_lists (λ q. eqb q subject_of_entry) f objects_entry p, elsewhere object_lists (λ q. any_of (eqb q) subject_lists) f objects_lists p, p)
    (lacked (domains_at object_name file) (elements f.value) l)
told file before f (rules.NamesUnknown.element p l) =
    let entry = elsewhere call_contexts (λ q. eqb q subject_of_entry) f patterns_entry p in
    let subjects = elsewhere call_contexts (λ q. any_of (eqb q) subject_lists) f patterns_lists p in
    let objects = elsewhere call_contexts (λ q. any_of (eqb q) object_lists) f patterns_objects p in
    rw (entry, subjects, objects, p) (lacked (element_names file) (elements f.value) l)

pub unknown_name_lem : (fs : List Field) → Ascending (λ f. f.line) 1 fs → Finds (UnknownName fs) (unknown_name fs)
unfolding unknown_name
unknown_name_lem fs a = tested (NamesUnknown fs) (names_unknown fs) (tells fs) (told fs) fs a
