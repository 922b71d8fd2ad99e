-- 6: each count is looked through as its definition says, and the seven looks together find the smallest line.
use mathlib.Core.Path.{◌≡◌, refl}
use mathlib.Core.List.{List, [], ◌∷◌, ◌++◌}
use mathlib.Core.Bool.{Bool, true, false, cond}
use mathlib.Core.Logic.{◌⊎◌, inl, inr}
use Prim.Native.Nat.{ℕ, ◌+◌, ◌≤◌}
use native.Mathlib.Omega.{arith}
use lib.Dec.{ltb}
use lib.ListN.{length}
use borrow.Author.Tests.{ltb-true, ltb-false, lt-ltb}
use Rattle.paper.specs.Limits.{most_domains, most_members, most_entries, most_elements, most_descriptors}
use Rattle.paper.specs.Lists.{elements}
use Rattle.paper.specs.Listing.{object_name, object_members, subject_name, subject_members, principal}
use Rattle.paper.specs.Page.{Field}
use Rattle.paper.specs.Entries.{is_at, is_at_one, call_contexts, up_to_next, stretches_from, entries_of, line_of_entry}
use Rattle.paper.specs.Rules.{earliest, first_with, passing, one_at, members_at, descriptors_in, long_pattern, over_limit}
use Rattle.laws.proofs.Tests.{both_true, both_left, both_right}
use Rattle.laws_page.specs.Right.{Ascending}
use Rattle.laws_page.proofs.Right.{ascending_from}
use Rattle.laws_file.specs.Rules.{On, OnField, total, Passes, LongPattern, OverLimit}
use Rattle.laws_file.specs.Rules as rules
use Rattle.laws_file.proofs.Smallest.{Finds, same_faults, look_finds, finds_either, finds_none}

-- ---- a count

pub total_both : {A : Type 0} (weight : A → ℕ) (xs ys : List A) → total weight (xs ++ ys) ≡ total weight xs + total weight ys
unfolding total
total_both weight [] ys = omega arith
total_both weight (x ∷ xs) ys = omega (arith, total_both weight xs ys)

total_more : {A : Type 0} (weight : A → ℕ) (before : List A) (x : A) → total weight (before ++ (x ∷ [])) ≡ total weight before + weight x
unfolding total
total_more weight before x = omega (arith, total_both weight before (x ∷ []))

module _ {A : Type 0} (line weight : A → ℕ) (limit : ℕ) where
  -- so far the count is within its limit
  keeps : (before : List A) (x : A) → total weight before ≤ limit → ltb limit (total weight before + weight x) ≡ false → total weight (before ++ (x ∷ [])) ≤ limit
  keeps before x h e = omega (arith, total_more weight before x, ltb-false limit (total weight before + weight x) e)

  tells : (before : List A) (x : A) → total weight before ≤ limit → ltb limit (total weight before + weight x) ≡ true → Passes weight limit before x
  tells before x h e = record { within = h; over = ltb-true limit (total weight before + weight x) e }

  told : (before : List A) (x : A) → Passes weight limit before x → ltb limit (total weight before + weight x) ≡ true
  told before x p = lt-ltb limit (total weight before + weight x) p.over

  ends : (before : List A) → passing line weight limit (total weight before) [] ≡ 0
  unfolding passing
  ends before = refl

  more : (before : List A) (x : A) (xs : List A)
      → passing line weight limit (total weight before) (x ∷ xs) ≡ cond (ltb limit (total weight before + weight x)) (line x) (passing line weight limit (total weight (before ++ (x ∷ []))) xs)
  unfolding passing
  more before x xs = rw (total_more weight before x) refl

  counts : (xs : List A) → Ascending line 1 xs → Finds (On line (Passes weight limit) xs) (passing line weight limit 0 xs)
  unfolding total
  counts xs a =
      look_finds line (Passes weight limit) (λ before x. ltb limit (total weight before + weight x)) (λ before. total weight before ≤ limit)
      keeps tells told (λ before ys. passing line weight limit (total weight before) ys) ends more xs a (omega arith)

-- ---- fields that a test tells

module _ (Fault : List Field → Field → Type 0) (test : Field → Bool)
    (tells : (before : List Field) (f : Field) → test f ≡ true → Fault before f)
    (told : (before : List Field) (f : Field) → Fault before f → test f ≡ true) where
  pub tested : (fs : List Field) → Ascending (λ f. f.line) 1 fs → Finds (OnField Fault fs) (first_with test fs)
  unfolding first_with
  tested fs a =
      look_finds (λ f. f.line) Fault (λ before f. test f) (λ before. Unit) (λ before f s e. tt) (λ before f s e. tells before f e) told
      (λ before gs. first_with test gs) (λ before. refl) (λ before f gs. refl) fs a tt

pattern_tells : (before : List Field) (f : Field) → long_pattern f ≡ true → LongPattern before f
unfolding long_pattern
pattern_tells before f e = record {
  place = both_left (is_at_one call_contexts f) (ltb most_elements (length (elements f.value))) e;
  long = ltb-true most_elements (length (elements f.value)) (both_right (is_at_one call_contexts f) (ltb most_elements (length (elements f.value))) e);
}

pattern_told : (before : List Field) (f : Field) → LongPattern before f → long_pattern f ≡ true
unfolding long_pattern
pattern_told before f p = both_true (is_at_one call_contexts f) (ltb most_elements (length (elements f.value))) p.place (lt-ltb most_elements (length (elements f.value)) p.long)

-- ---- entries

-- the fields before the next one of a place ascend as all do
front_ascends : (place n : ℕ) (fs : List Field) → Ascending (λ f. f.line) n fs → Ascending (λ f. f.line) n (up_to_next place fs)
unfolding up_to_next
front_ascends place n [] a = tt
front_ascends place n (f ∷ fs) a = go (is_at place f) (front_ascends place (f.line + 1) fs a.1)
  where
    go : (t : Bool) → Ascending (λ g. g.line) (f.line + 1) (up_to_next place fs) → Ascending (λ g. g.line) n (cond t [] (f ∷ up_to_next place fs))
    go true h = tt
    go false h = (a.0, h)

-- every one of these ascends by itself
abbrev pub EachAscends : List (List Field) → Type 0
EachAscends [] = Unit
EachAscends (e ∷ es) = Ascending (λ f. f.line) 1 e × EachAscends es

stretches_ascend : (place n : ℕ) (fs : List Field) → 1 ≤ n → Ascending (λ f. f.line) n fs → Ascending line_of_entry n (stretches_from place fs) × EachAscends (stretches_from place fs)
unfolding stretches_from line_of_entry
stretches_ascend place n [] h a = (tt, tt)
stretches_ascend place n (f ∷ fs) h a = go (is_at place f) (stretches_ascend place (f.line + 1) fs (omega arith) a.1)
  where
    go : (t : Bool) → Ascending line_of_entry (f.line + 1) (stretches_from place fs) × EachAscends (stretches_from place fs)
        → Ascending line_of_entry n (cond t ((f ∷ up_to_next place fs) ∷ stretches_from place fs) (stretches_from place fs))
        × EachAscends (cond t ((f ∷ up_to_next place fs) ∷ stretches_from place fs) (stretches_from place fs))
    go true h' = ((a.0, h'.0), ((omega (arith, a.0), front_ascends place (f.line + 1) fs a.1), h'.1))
    go false h' = (ascending_from line_of_entry n (f.line + 1) (stretches_from place fs) (omega (arith, a.0)) h'.0, h'.1)

pub entries_ascend : (fs : List Field) → Ascending (λ f. f.line) 1 fs → Ascending line_of_entry 1 (entries_of fs)
unfolding entries_of
entries_ascend fs a = (stretches_ascend principal 1 fs (omega arith) a).0

pub each_ascends : (fs : List Field) → Ascending (λ f. f.line) 1 fs → EachAscends (entries_of fs)
unfolding entries_of
each_ascends fs a = (stretches_ascend principal 1 fs (omega arith) a).1

-- ---- all of them

module _ (fs : List Field) (a : Ascending (λ f. f.line) 1 fs) where
  -- the seven counts
  abbrev Some : ℕ → Type 0
  Some m =
      OnField (Passes (one_at object_name) most_domains) fs m
      ⊎ (OnField (Passes (one_at subject_name) most_domains) fs m
      ⊎ (OnField (Passes (members_at object_members) most_members) fs m
      ⊎ (OnField (Passes (members_at subject_members) most_members) fs m
      ⊎ (OnField (Passes (one_at principal) most_entries) fs m
      ⊎ (OnField LongPattern fs m
      ⊎ (On line_of_entry (Passes descriptors_in most_descriptors) (entries_of fs) m ⊎ ⊥))))))

  to : (m : ℕ) → Some m → OverLimit fs m
  to m (inl o) = rules.OverLimit.domains_of_objects o
  to m (inr (inl o)) = rules.OverLimit.domains_of_subjects o
  to m (inr (inr (inl o))) = rules.OverLimit.objects o
  to m (inr (inr (inr (inl o)))) = rules.OverLimit.subjects o
  to m (inr (inr (inr (inr (inl o))))) = rules.OverLimit.entries o
  to m (inr (inr (inr (inr (inr (inl o)))))) = rules.OverLimit.elements_of_pattern o
  to m (inr (inr (inr (inr (inr (inr (inl o))))))) = rules.OverLimit.descriptors o
  to m (inr (inr (inr (inr (inr (inr (inr z))))))) = absurd z

  from : (m : ℕ) → OverLimit fs m → Some m
  from m (rules.OverLimit.domains_of_objects o) = inl o
  from m (rules.OverLimit.domains_of_subjects o) = inr (inl o)
  from m (rules.OverLimit.objects o) = inr (inr (inl o))
  from m (rules.OverLimit.subjects o) = inr (inr (inr (inl o)))
  from m (rules.OverLimit.entries o) = inr (inr (inr (inr (inl o))))
  from m (rules.OverLimit.elements_of_pattern o) = inr (inr (inr (inr (inr (inl o)))))
  from m (rules.OverLimit.descriptors o) = inr (inr (inr (inr (inr (inr (inl o))))))

  pub over_limit_lem : Finds (OverLimit fs) (over_limit fs)
  unfolding over_limit earliest
  over_limit_lem =
      same_faults (over_limit fs) to from
      (finds_either _ _ (counts (λ f. f.line) (one_at object_name) most_domains fs a)
      (finds_either _ _ (counts (λ f. f.line) (one_at subject_name) most_domains fs a)
      (finds_either _ _ (counts (λ f. f.line) (members_at object_members) most_members fs a)
      (finds_either _ _ (counts (λ f. f.line) (members_at subject_members) most_members fs a)
      (finds_either _ _ (counts (λ f. f.line) (one_at principal) most_entries fs a)
      (finds_either _ _ (tested LongPattern long_pattern pattern_tells pattern_told fs a)
      (finds_either _ _ (counts line_of_entry descriptors_in most_descriptors (entries_of fs) (entries_ascend fs a))
      finds_none)))))))
