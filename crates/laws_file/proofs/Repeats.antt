-- 7: what was seen is what the fields before gave, so the first field that repeats a name is the first that names it again.
use mathlib.Core.Path.{◌≡◌, refl}
use mathlib.Core.List.{List, [], ◌∷◌, ◌++◌}
use mathlib.Core.Bool.{true, cond}
use mathlib.Core.Logic.{◌⊎◌, inl, inr, ⊎_elim}
use Prim.Native.Nat.{ℕ}
use Rattle.paper.specs.Lists.{elements}
use Rattle.paper.specs.Listing.{object_members, subject_members}
use Rattle.paper.specs.Page.{Field}
use Rattle.paper.specs.Entries.{is_at_one}
use Rattle.paper.specs.Rules.{earliest, repeats, repeated, domain_named, members_named, subject_lists, object_lists, repeats_in_list, named_twice}
use Rattle.laws.proofs.Tests.{both_true, both_left, both_right}
use Rattle.laws_page.specs.Right.{Ascending}
use Rattle.laws_file.specs.Rules.{Has, OnField, Twice, NamesAgain, RepeatsInList, NamedTwice}
use Rattle.laws_file.specs.Rules as rules
use Rattle.laws_file.proofs.Smallest.{Finds, same_faults, look_finds, finds_either, finds_none}
use Rattle.laws_file.proofs.Stands.{has_none, repeats_so, so_repeats, seen_from, seen_more, has_seen, seen_has}
use Rattle.laws_file.proofs.Counts.{tested}

-- ---- whatever names it is that fields give

module _ (named : Field → List (List ℕ)) where
  tells : (before : List Field) (f : Field) → Unit {0} → repeats (seen_from named [] before) (named f) ≡ true → NamesAgain named before f
  tells before f u e =
      ⊎_elim
      (λ (r : (name : List ℕ) × Has (seen_from named [] before) name × Has (named f) name).
      ⊎_elim
      (λ (n : Has [] r.0). absurd (has_none n))
      (λ (g : (g : Field) × Has before g × Has (named g) r.0). rules.NamesAgain.named_before g.0 g.1 r.0 g.2 r.2)
      (has_seen named r.0 [] before r.1))
      (λ (t : Twice (named f)). rules.NamesAgain.twice_itself t)
      (repeats_so (seen_from named [] before) (named f) e)

  told : (before : List Field) (f : Field) → NamesAgain named before f → repeats (seen_from named [] before) (named f) ≡ true
  told before f (rules.NamesAgain.named_before g b name n h) = so_repeats (seen_from named [] before) (named f) (inl (name, seen_has named name [] before g b n, h))
  told before f (rules.NamesAgain.twice_itself t) = so_repeats (seen_from named [] before) (named f) (inr t)

  ends : (before : List Field) → repeated named (seen_from named [] before) [] ≡ 0
  unfolding repeated
  ends before = refl

  more : (before : List Field) (f : Field) (fs : List Field)
      → repeated named (seen_from named [] before) (f ∷ fs)
      ≡ cond (repeats (seen_from named [] before) (named f)) f.line (repeated named (seen_from named [] (before ++ (f ∷ []))) fs)
  unfolding repeated
  more before f fs = rw (seen_more named [] before f) refl

  again : (fs : List Field) → Ascending (λ f. f.line) 1 fs → Finds (OnField (NamesAgain named) fs) (repeated named [] fs)
  unfolding seen_from
  again fs a =
      look_finds (λ f. f.line) (NamesAgain named) (λ before f. repeats (seen_from named [] before) (named f)) (λ before. Unit {0}) (λ before f s e. tt)
      tells told (λ before gs. repeated named (seen_from named [] before) gs) ends more fs a tt

-- ---- one list

list_tells : (before : List Field) (f : Field) → repeats_in_list f ≡ true → RepeatsInList before f
unfolding repeats_in_list
list_tells before f e = record {
  place = both_left (is_at_one (subject_lists ++ object_lists) f) (repeats [] (elements f.value)) e;
  twice =
      ⊎_elim
      (λ (r : (name : List ℕ) × Has [] name × Has (elements f.value) name). absurd (has_none r.1))
      (λ (t : Twice (elements f.value)). t)
      (repeats_so [] (elements f.value) (both_right (is_at_one (subject_lists ++ object_lists) f) (repeats [] (elements f.value)) e));
}

list_told : (before : List Field) (f : Field) → RepeatsInList before f → repeats_in_list f ≡ true
unfolding repeats_in_list
list_told before f r =
    both_true (is_at_one (subject_lists ++ object_lists) f) (repeats [] (elements f.value)) r.place (so_repeats [] (elements f.value) (inr r.twice))

-- ---- all of them

module _ (fs : List Field) (a : Ascending (λ f. f.line) 1 fs) where
  abbrev Some : ℕ → Type 0
  Some m =
      OnField (NamesAgain domain_named) fs m
      ⊎ (OnField (NamesAgain (members_named object_members)) fs m
      ⊎ (OnField (NamesAgain (members_named subject_members)) fs m
      ⊎ (OnField RepeatsInList fs m ⊎ ⊥)))

  to : (m : ℕ) → Some m → NamedTwice fs m
  to m (inl o) = rules.NamedTwice.domain_name o
  to m (inr (inl o)) = rules.NamedTwice.object o
  to m (inr (inr (inl o))) = rules.NamedTwice.subject o
  to m (inr (inr (inr (inl o)))) = rules.NamedTwice.in_one_list o
  to m (inr (inr (inr (inr z)))) = absurd z

  from : (m : ℕ) → NamedTwice fs m → Some m
  from m (rules.NamedTwice.domain_name o) = inl o
  from m (rules.NamedTwice.object o) = inr (inl o)
  from m (rules.NamedTwice.subject o) = inr (inr (inl o))
  from m (rules.NamedTwice.in_one_list o) = inr (inr (inr (inl o)))

  pub named_twice_lem : Finds (NamedTwice fs) (named_twice fs)
  unfolding named_twice earliest
  named_twice_lem =
      same_faults (named_twice fs) to from
      (finds_either _ _ (again domain_named fs a)
      (finds_either _ _ (again (members_named object_members) fs a)
      (finds_either _ _ (again (members_named subject_members) fs a)
      (finds_either _ _ (tested RepeatsInList repeats_in_list list_tells list_told fs a)
      finds_none))))
