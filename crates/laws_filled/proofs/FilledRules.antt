-- 6, 8 and the lists of 7 of the filled text: what its fields hold beyond those of the file breaks no rule.
use mathlib.Core.Path.{◌≡◌, refl, ap}
use mathlib.Core.List.{List, [], ◌∷◌, ◌++◌}
use mathlib.Core.Bool.{Bool, true, false, cond, not, ◌&&◌}
use Prim.Native.Nat.{ℕ}
use lib.Dec.{eqb, ltb}
use lib.ListN.{length}
use borrow.Author.Tests.{ne_eqb, not-true}
use Rattle.paper.proofs.Computing.{computing}
use Rattle.paper.specs.Common.{bytes, all_of, any_of}
use Rattle.paper.specs.Limits.{most_elements}
use Rattle.paper.specs.Lists.{elements}
use Rattle.paper.specs.Listing.{subject_of_entry}
use Rattle.paper.specs.Page.{Field}
use Rattle.paper.specs.Entries.{is_at_one, call_contexts, default_at}
use Rattle.paper.specs.Rules.{first_with, long_pattern, repeats_in_list, subject_lists, object_lists, names_unknown}
use Rattle.laws.proofs.Tests.{both_left, both_right, both_false}
use Rattle.laws_filled.specs.Fields.{unwritten}
use Rattle.laws_filled.proofs.Says.{says}
use Rattle.laws_filled.proofs.LineKeys.{among_all}
use Rattle.laws_filled.proofs.EveryField.{Passes}

pub first_silent : (test : Field → Bool) (fs : List Field) → all_of (λ f. not (test f)) fs ≡ true → first_with test fs ≡ 0
unfolding all_of first_with
first_silent test [] h = refl
first_silent test (f ∷ fs) h = rw (not-true (test f) (both_left (not (test f)) _ h)) (first_silent test fs (both_right (not (test f)) _ h))

-- the default of a place
pub default_either : (p : ℕ) (Holds : List ℕ → Type 0) → (any_of (eqb p) call_contexts ≡ true → Holds (bytes "[all]")) → Holds (bytes "all")
    → Holds (default_at p)
unfolding default_at
default_either p Holds h k = go (any_of (eqb p) call_contexts) h
  where
    go : (t : Bool) → (t ≡ true → Holds (bytes "[all]")) → Holds (cond t (bytes "[all]") (bytes "all"))
    go true m = m refl
    go false m = k

and_false : (x : Bool) → not (x && false) ≡ true
and_false x = ap not (both_false x false refl)

-- no pattern that is put in is long
pub long_passes : Passes (λ f. not (long_pattern f))
unfolding computing says unwritten
long_passes = record {
  said = λ f. refl;
  bare = λ p n. and_false (any_of (eqb p) call_contexts);
  none = λ p n. and_false (any_of (eqb p) call_contexts);
  default =
      λ p n. default_either p (λ v. not (any_of (eqb p) call_contexts && ltb most_elements (length (elements v))) ≡ true)
      (λ k. and_false (any_of (eqb p) call_contexts)) (and_false (any_of (eqb p) call_contexts));
}

-- no list that is put in has a name twice
pub lists_pass : Passes (λ f. not (repeats_in_list f))
unfolding computing says unwritten
lists_pass = record {
  said = λ f. refl;
  bare = λ p n. and_false (any_of (eqb p) (subject_lists ++ object_lists));
  none = λ p n. and_false (any_of (eqb p) (subject_lists ++ object_lists));
  default =
      λ p n. default_either p (λ v. not (repeats_in_list (unwritten p v)) ≡ true) (λ k. and_false (any_of (eqb p) (subject_lists ++ object_lists)))
      (and_false (any_of (eqb p) (subject_lists ++ object_lists)));
}

chain_false : (x y z : Bool) → not (cond x false (cond y false (z && false))) ≡ true
chain_false true y z = refl
chain_false false true z = refl
chain_false false false z = and_false z

-- no name that is put in is unknown
module _ (file : List Field) where
  nothing_named : (p : ℕ) (v : List ℕ) → elements v ≡ [] → (p ≡ subject_of_entry → ⊥) → not (names_unknown file (unwritten p v)) ≡ true
  unfolding names_unknown is_at_one unwritten Rattle.paper.specs.Rules.all_known all_of
  nothing_named p v e n =
      rw (ne_eqb p subject_of_entry n, e) (chain_false (any_of (eqb p) subject_lists) (any_of (eqb p) object_lists) (any_of (eqb p) call_contexts))

  all_known_lem : all_of (λ p. not (names_unknown file (unwritten p (bytes "[all]")))) call_contexts ≡ true
  unfolding computing unwritten
  all_known_lem = refl

  pub names_pass : Passes (λ f. not (names_unknown file f))
  unfolding computing says unwritten
  names_pass = record {
    said = λ f. refl;
    bare = λ p n. nothing_named p [] refl n;
    none = λ p n. nothing_named p (bytes "[]") refl n;
    default =
        λ p n. default_either p (λ v. not (names_unknown file (unwritten p v)) ≡ true)
        (λ k. among_all (λ q. not (names_unknown file (unwritten q (bytes "[all]")))) p call_contexts k all_known_lem)
        (nothing_named p (bytes "all") refl n);
  }
