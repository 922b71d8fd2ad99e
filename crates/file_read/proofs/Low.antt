-- A rule answers with a line of the file, so that the line is one that a text can have.
use mathlib.Core.Path.{◌≡◌, refl}
use mathlib.Core.Bool.{Bool, true, false, cond, ◌||◌}
use mathlib.Core.List.{List, [], ◌∷◌, ◌++◌, map}
use Prim.Native.Nat.{ℕ, ◌+◌, ◌≤◌}
use native.Mathlib.Omega.{arith}
use lib.Dec.{eqb, ltb, leb}
use borrow.Author.Tests.{leb-true}
use Rattle.paper.specs.Common.{all_of, any_of}
use Rattle.paper.specs.Limits.{text_bytes}
use Rattle.paper.specs.Listing.{object_name, subject_name, object_members, subject_members, principal}
use Rattle.paper.specs.Page.{Field}
use Rattle.paper.specs.Entries.{entries_of, line_of_entry}
use Rattle.paper.specs.Rules.{earlier, earliest, first_with, passing, repeats, repeated, same_principal, twin_after, is_unbound}
use Rattle.paper.specs.Rules.{over_limit, named_twice, unknown_name, unbound_variable, twin_principal, names_unknown, long_pattern, repeats_in_list, one_at, members_at, descriptors_in, domain_named, members_named}
use Rattle.laws.proofs.Tests.{both_left, both_right, both_true}
use Rattle.laws_file.proofs.Stretched.{stretches_all}
use Rattle.file_read.specs.Readable.{is_low}

-- one of two lines that are low
low_of : (b : Bool) (x y : ℕ) → x ≤ text_bytes → y ≤ text_bytes → cond b x y ≤ text_bytes
low_of true x y p q = p
low_of false x y p q = q

earlier_low : (a b : ℕ) → a ≤ text_bytes → b ≤ text_bytes → earlier a b ≤ text_bytes
unfolding earlier
earlier_low a b p q = low_of (eqb a 0) b _ q (low_of (eqb b 0 || ltb a b) a b p q)

-- ---- a line of some thing in a list, all of whose lines are low

module _ {A : Type 0} (line : A → ℕ) where
  -- all of them are
  abbrev Low : List A → Type 0
  Low xs = all_of (λ x. leb (line x) text_bytes) xs ≡ true

  low_first : (x : A) (xs : List A) → Low (x ∷ xs) → line x ≤ text_bytes
  unfolding all_of
  low_first x xs h = leb-true (line x) text_bytes (both_left (leb (line x) text_bytes) (all_of (λ x. leb (line x) text_bytes) xs) h)

  low_rest : (x : A) (xs : List A) → Low (x ∷ xs) → Low xs
  unfolding all_of
  low_rest x xs h = both_right (leb (line x) text_bytes) (all_of (λ x. leb (line x) text_bytes) xs) h

  passing_low : (weight : A → ℕ) (limit k : ℕ) (xs : List A) → Low xs → passing line weight limit k xs ≤ text_bytes
  unfolding passing
  passing_low weight limit k [] h = omega arith
  passing_low weight limit k (x ∷ xs) h = low_of (ltb limit (k + weight x)) (line x) _ (low_first x xs h) (passing_low weight limit (k + weight x) xs (low_rest x xs h))

-- the line of a field
abbrev line_of : Field → ℕ
line_of f = f.line

module _ (named : Field → List (List ℕ)) where
  repeated_low : (seen : List (List ℕ)) (fs : List Field) → Low line_of fs → repeated named seen fs ≤ text_bytes
  unfolding repeated
  repeated_low seen [] h = omega arith
  repeated_low seen (f ∷ fs) h = low_of (repeats seen (named f)) f.line _ (low_first line_of f fs h) (repeated_low (named f ++ seen) fs (low_rest line_of f fs h))

first_low : (test : Field → Bool) (fs : List Field) → Low line_of fs → first_with test fs ≤ text_bytes
unfolding first_with
first_low test [] h = omega arith
first_low test (f ∷ fs) h = low_of (test f) f.line _ (low_first line_of f fs h) (first_low test fs (low_rest line_of f fs h))

twin_low : (seen es : List (List Field)) → Low line_of_entry es → twin_after seen es ≤ text_bytes
unfolding twin_after
twin_low seen [] h = omega arith
twin_low seen (e ∷ es) h = low_of (any_of (same_principal e) seen) (line_of_entry e) _ (low_first line_of_entry e es h) (twin_low (e ∷ seen) es (low_rest line_of_entry e es h))

earliest_entries_low : (es : List (List Field)) → all_of (λ e. all_of is_low e) es ≡ true → earliest (map (λ e. first_with (is_unbound e) e) es) ≤ text_bytes
unfolding earliest all_of is_low
earliest_entries_low [] h = omega arith
earliest_entries_low (e ∷ es) h =
    earlier_low _ _ (first_low (is_unbound e) e (both_left (all_of is_low e) _ h)) (earliest_entries_low es (both_right (all_of is_low e) _ h))

-- ---- the entries of a file whose lines are low

entry_low : (e : List Field) → all_of is_low e ≡ true → leb (line_of_entry e) text_bytes ≡ true
unfolding line_of_entry all_of is_low
entry_low [] h = refl
entry_low (f ∷ fs) h = both_left (leb f.line text_bytes) _ h

entries_low : (es : List (List Field)) → all_of (λ e. all_of is_low e) es ≡ true → Low line_of_entry es
unfolding all_of
entries_low [] h = refl
entries_low (e ∷ es) h = both_true (leb (line_of_entry e) text_bytes) _ (entry_low e (both_left (all_of is_low e) _ h)) (entries_low es (both_right (all_of is_low e) _ h))

module _ (fs : List Field) (low : all_of is_low fs ≡ true) where
  lines_low : Low line_of fs
  unfolding is_low
  lines_low = low

  in_entries : all_of (λ e. all_of is_low e) (entries_of fs) ≡ true
  unfolding entries_of
  in_entries = stretches_all principal is_low fs low

  pub over_low : over_limit fs ≤ text_bytes
  unfolding over_limit earliest
  over_low =
      earlier_low _ _ (passing_low line_of (one_at object_name) 128 0 fs lines_low)
      (earlier_low _ _ (passing_low line_of (one_at subject_name) 128 0 fs lines_low)
      (earlier_low _ _ (passing_low line_of (members_at object_members) 1024 0 fs lines_low)
      (earlier_low _ _ (passing_low line_of (members_at subject_members) 1024 0 fs lines_low)
      (earlier_low _ _ (passing_low line_of (one_at principal) 128 0 fs lines_low)
      (earlier_low _ _ (first_low long_pattern fs lines_low)
      (earlier_low _ _ (passing_low line_of_entry descriptors_in 256 0 (entries_of fs) (entries_low (entries_of fs) in_entries)) (omega arith)))))))

  pub twice_low : named_twice fs ≤ text_bytes
  unfolding named_twice earliest
  twice_low =
      earlier_low _ _ (repeated_low domain_named [] fs lines_low)
      (earlier_low _ _ (repeated_low (members_named object_members) [] fs lines_low)
      (earlier_low _ _ (repeated_low (members_named subject_members) [] fs lines_low)
      (earlier_low _ _ (first_low repeats_in_list fs lines_low) (omega arith))))

  pub unknown_low : unknown_name fs ≤ text_bytes
  unfolding unknown_name
  unknown_low = first_low (names_unknown fs) fs lines_low

  pub unbound_low : unbound_variable fs ≤ text_bytes
  unfolding unbound_variable
  unbound_low = earliest_entries_low (entries_of fs) in_entries

  pub twins_low : twin_principal fs ≤ text_bytes
  unfolding twin_principal
  twins_low = twin_low [] (entries_of fs) (entries_low (entries_of fs) in_entries)
