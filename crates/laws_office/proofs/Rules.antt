-- The rules over the whole file look at lines, places and values, and at no start: each names the line that it named.
use mathlib.Core.Path.{◌≡◌, refl, sym, ap, ◌∙◌}
use mathlib.Core.List.{List, [], ◌∷◌, ◌++◌, map}
use mathlib.Core.Bool.{Bool}
use Prim.Native.Nat.{ℕ, ◌+◌}
use lib.ListN.{length-map}
use Rattle.paper.specs.Limits.{most_domains, most_members, most_entries, most_descriptors}
use Rattle.paper.specs.Listing.{object_name, object_members, subject_name, subject_members, principal, execution_context, can_read, can_write}
use Rattle.paper.specs.Listing.{uid_in, gid_in, namespace_in, objects_in}
use Rattle.paper.specs.Page.{Field, fields}
use Rattle.paper.specs.Entries.{is_at_one, value_at, stretches_from, entries_of, items_of, line_of_entry}
use Rattle.paper.specs.Rules.{first_with, passing, one_at, members_at, descriptors_of, descriptors_in, long_pattern, over_limit, repeated, domain_named}
use Rattle.paper.specs.Rules.{members_named, repeats_in_list, named_twice, domains_at, identifiers_at, element_names, names_unknown, unknown_name}
use Rattle.paper.specs.Rules.{is_unbound_key, is_unbound, unbound_variable, same_principal, twin_after, twin_principal, ruled}
use Rattle.laws_filled.specs.Fields.{unwritten}
use Rattle.laws_filled.proofs.Says.{says, map_same, stretches_kept, value_says, domains_say, identifiers_say}
use Rattle.laws_filled.proofs.FilledTwins.{any_kept, says_principal}
use Rattle.laws_office.specs.Office.{moved, moved_outcome}
use Rattle.laws_office.proofs.Pages.{unless_line_lem}

-- ---- looks through a list, one thing after the other

module _ {A B : Type 0} (h : A → B) (line : B → ℕ) (line' : A → ℕ) (weight : B → ℕ) (weight' : A → ℕ)
    (lines : (x : A) → line (h x) ≡ line' x) (weights : (x : A) → weight (h x) ≡ weight' x) where
  passing_kept : (limit k : ℕ) (xs : List A) → passing line weight limit k (map h xs) ≡ passing line' weight' limit k xs
  unfolding passing
  passing_kept limit k [] = refl
  passing_kept limit k (x ∷ xs) = rw (lines x, weights x, passing_kept limit (k + weight' x) xs) refl

module _ (withReturn : ℕ → Bool) where
  abbrev g : Field → Field
  g = moved withReturn

  first_kept : (test test' : Field → Bool) → ((f : Field) → test (g f) ≡ test' f) → (fs : List Field) → first_with test (map g fs) ≡ first_with test' fs
  unfolding first_with moved
  first_kept test test' e [] = refl
  first_kept test test' e (f ∷ fs) = rw (e f, first_kept test test' e fs) refl

  repeated_kept : (named : Field → List (List ℕ)) → ((f : Field) → named (g f) ≡ named f) → (seen : List (List ℕ)) (fs : List Field)
      → repeated named seen (map g fs) ≡ repeated named seen fs
  unfolding repeated moved
  repeated_kept named e seen [] = refl
  repeated_kept named e seen (f ∷ fs) = rw (e f, repeated_kept named e (named f ++ seen) fs) refl

  -- ---- what looks at places and values alone

  moved_says : (fs : List Field) → map says (map g fs) ≡ map says fs
  unfolding says unwritten moved
  moved_says fs = map_same g says says (λ f. refl) fs

  pub moved_same : {B : Type 0} (asked : List Field → B) → ((fs : List Field) → asked (map says fs) ≡ asked fs) → (fs : List Field) → asked (map g fs) ≡ asked fs
  moved_same asked said fs = sym (said (map g fs)) ∙ ap asked (moved_says fs) ∙ said fs

  value_moved : (p : ℕ) (fs : List Field) → value_at p (map g fs) ≡ value_at p fs
  value_moved p = moved_same (value_at p) (value_says p)

  domains_moved : (p : ℕ) (fs : List Field) → domains_at p (map g fs) ≡ domains_at p fs
  domains_moved p = moved_same (domains_at p) (domains_say p)

  identifiers_moved : (p : ℕ) (fs : List Field) → identifiers_at p (map g fs) ≡ identifiers_at p fs
  identifiers_moved p = moved_same (identifiers_at p) (identifiers_say p)

  pub there : (f : Field) → (g f).place ≡ f.place
  unfolding moved
  there f = refl

  stretches_moved : (p : ℕ) (fs : List Field) → stretches_from p (map g fs) ≡ map (map g) (stretches_from p fs)
  stretches_moved = stretches_kept g there

  entries_moved : (fs : List Field) → entries_of (map g fs) ≡ map (map g) (entries_of fs)
  unfolding entries_of
  entries_moved fs = stretches_moved principal fs

  entry_line : (e : List Field) → line_of_entry (map g e) ≡ line_of_entry e
  unfolding line_of_entry moved
  entry_line [] = refl
  entry_line (f ∷ fs) = refl

  -- ---- 6

  one_moved : (p : ℕ) (f : Field) → one_at p (g f) ≡ one_at p f
  unfolding one_at moved
  one_moved p f = refl

  members_moved : (p : ℕ) (f : Field) → members_at p (g f) ≡ members_at p f
  unfolding members_at moved
  members_moved p f = refl

  long_moved : (f : Field) → long_pattern (g f) ≡ long_pattern f
  unfolding long_pattern is_at_one moved
  long_moved f = refl

  line_moved : (f : Field) → (g f).line ≡ f.line
  unfolding moved
  line_moved f = refl

  counted_moved : (weight : Field → ℕ) → ((f : Field) → weight (g f) ≡ weight f) → (limit : ℕ) (fs : List Field)
      → passing (λ f. f.line) weight limit 0 (map g fs) ≡ passing (λ f. f.line) weight limit 0 fs
  counted_moved weight e limit fs = passing_kept g (λ f. f.line) (λ f. f.line) weight weight line_moved e limit 0 fs

  descriptors_of_lem : (a : ℕ) (e : List Field) → descriptors_of a (map g e) ≡ descriptors_of a e
  unfolding descriptors_of items_of
  descriptors_of_lem a e = rw (value_moved a e, stretches_moved (objects_in a) e, length-map (stretches_from (objects_in a) e) (map g)) refl

  descriptors_moved : (e : List Field) → descriptors_in (map g e) ≡ descriptors_in e
  unfolding descriptors_in
  descriptors_moved e = rw (descriptors_of_lem can_read e, descriptors_of_lem can_write e) refl

  limits_moved : (fs : List Field) → over_limit (map g fs) ≡ over_limit fs
  unfolding over_limit
  limits_moved fs =
      rw (
        counted_moved (one_at object_name) (one_moved object_name) most_domains fs,
        counted_moved (one_at subject_name) (one_moved subject_name) most_domains fs,
        counted_moved (members_at object_members) (members_moved object_members) most_members fs,
        counted_moved (members_at subject_members) (members_moved subject_members) most_members fs,
        counted_moved (one_at principal) (one_moved principal) most_entries fs,
        first_kept long_pattern long_pattern long_moved fs,
        entries_moved fs,
        passing_kept (map g) line_of_entry line_of_entry descriptors_in descriptors_in entry_line descriptors_moved most_descriptors 0 (entries_of fs),
      ) refl

  -- ---- 7

  domain_named_lem : (f : Field) → domain_named (g f) ≡ domain_named f
  unfolding domain_named is_at_one moved
  domain_named_lem f = refl

  members_named_lem : (p : ℕ) (f : Field) → members_named p (g f) ≡ members_named p f
  unfolding members_named moved
  members_named_lem p f = refl

  lists_repeat : (f : Field) → repeats_in_list (g f) ≡ repeats_in_list f
  unfolding repeats_in_list is_at_one moved
  lists_repeat f = refl

  twice_moved : (fs : List Field) → named_twice (map g fs) ≡ named_twice fs
  unfolding named_twice
  twice_moved fs =
      rw (
        repeated_kept domain_named domain_named_lem [] fs,
        repeated_kept (members_named object_members) (members_named_lem object_members) [] fs,
        repeated_kept (members_named subject_members) (members_named_lem subject_members) [] fs,
        first_kept repeats_in_list repeats_in_list lists_repeat fs,
      ) refl

  -- ---- 8

  unknown_names : (file : List Field) (f : Field) → names_unknown (map g file) (g f) ≡ names_unknown file f
  unfolding names_unknown element_names is_at_one moved
  unknown_names file f =
      rw (domains_moved subject_name file, domains_moved object_name file, identifiers_moved subject_members file) refl

  unknown_moved : (fs : List Field) → unknown_name (map g fs) ≡ unknown_name fs
  unfolding unknown_name
  unknown_moved fs = first_kept (names_unknown (map g fs)) (names_unknown fs) (unknown_names fs) fs

  -- ---- 10

  unbound_names : (e : List Field) (f : Field) → is_unbound (map g e) (g f) ≡ is_unbound e f
  unfolding is_unbound is_unbound_key is_at_one moved
  unbound_names e f =
      rw (value_moved (uid_in execution_context) e, value_moved (gid_in execution_context) e, value_moved (namespace_in execution_context) e) refl

  unbound_moved : (fs : List Field) → unbound_variable (map g fs) ≡ unbound_variable fs
  unfolding unbound_variable
  unbound_moved fs =
      rw (
        entries_moved fs,
        map_same (map g) (λ entry. first_with (is_unbound entry) entry) (λ entry. first_with (is_unbound entry) entry)
            (λ e. first_kept (is_unbound (map g e)) (is_unbound e) (unbound_names e) e) (entries_of fs),
      ) refl

  -- ---- 11

  principal_moved : (a b : List Field) → same_principal (map g a) (map g b) ≡ same_principal a b
  principal_moved a b = sym (says_principal (map g a) (map g b)) ∙ rw (moved_says a, moved_says b) (says_principal a b)

  twins_after : (seen es : List (List Field)) → twin_after (map (map g) seen) (map (map g) es) ≡ twin_after seen es
  unfolding twin_after
  twins_after seen [] = refl
  twins_after seen (e ∷ es) = rw (any_kept (map g) principal_moved e seen, entry_line e, twins_after (e ∷ seen) es) refl

  twins_moved : (fs : List Field) → twin_principal (map g fs) ≡ twin_principal fs
  unfolding twin_principal
  twins_moved fs = rw (entries_moved fs) (twins_after [] (entries_of fs))

  -- ---- all of them

  pub rules_moved : (fs : List Field) → ruled (map g fs) ≡ moved_outcome withReturn (ruled fs)
  unfolding ruled
  rules_moved fs =
      rw (limits_moved fs, twice_moved fs, unknown_moved fs, unbound_moved fs, twins_moved fs)
      (unless_line_lem withReturn 6 (over_limit fs) _ _
      (unless_line_lem withReturn 7 (named_twice fs) _ _
      (unless_line_lem withReturn 8 (unknown_name fs) _ _ (unless_line_lem withReturn 10 (unbound_variable fs) _ _ (unless_line_lem withReturn 11 (twin_principal fs) _ (fields fs) refl)))))
