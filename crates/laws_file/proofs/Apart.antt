-- 7: the domain names of a map do not repeat, since those of both maps together do not.
use mathlib.Core.Path.{◌≡◌, refl}
use mathlib.Core.Bool.{Bool, true, false, cond}
use mathlib.Core.Logic.{◌⊎◌, ⊎_elim}
use mathlib.Core.List.{List, [], ◌∷◌, ◌++◌, map}
use Prim.Native.Nat.{ℕ}
use borrow.Author.Tests.{eqb-true}
use Rattle.paper.specs.Common.{any_of, all_of, same, among}
use Rattle.paper.specs.Listing.{object_name, subject_name}
use Rattle.paper.specs.Page.{Field}
use Rattle.paper.specs.Entries.{is_at, is_at_one, fields_at}
use Rattle.paper.specs.Rules.{repeats, repeated, domain_named, domains_at, named_twice}
use Rattle.laws.proofs.Tests.{both_left, both_right, neither, neither_left, neither_right}
use Rattle.laws_page.specs.Right.{is_numbered}
use Rattle.laws_file.proofs.Scans.{earliest_none, none_here}

-- what is not among the first is not among the second
abbrev Fewer : List (List ℕ) → List (List ℕ) → Type 0
Fewer more less = (x : List ℕ) → among x more ≡ false → among x less ≡ false

fewer_both : (v : List ℕ) (more less : List (List ℕ)) → Fewer more less → Fewer (v ∷ more) (v ∷ less)
unfolding among any_of
fewer_both v more less h x e = neither (same x v) (among x less) (neither_left (same x v) (among x more) e) (h x (neither_right (same x v) (among x more) e))

fewer_named : (f : Field) (more less : List (List ℕ)) → Fewer more less → Fewer (domain_named f ++ more) less
unfolding domain_named among any_of
fewer_named f more less h = go (is_at_one (object_name ∷ subject_name ∷ []) f)
  where
    go : (t : Bool) → Fewer (cond t (f.value ∷ []) [] ++ more) less
    go true = λ x e. h x (neither_right (same x f.value) (among x more) e)
    go false = h

module _ (place : ℕ) (which : (place ≡ object_name) ⊎ (place ≡ subject_name)) where
  -- a field of the map's names gives its value
  gives : (f : Field) → is_at place f ≡ true → domain_named f ≡ f.value ∷ []
  unfolding domain_named is_at_one any_of
  gives f e = ⊎_elim (λ (p : place ≡ object_name). rw (eqb-true f.place place e, p) refl) (λ (p : place ≡ subject_name). rw (eqb-true f.place place e, p) refl) which

  names_apart : (more less : List (List ℕ)) (fs : List Field) → Fewer more less → all_of is_numbered fs ≡ true → repeated domain_named more fs ≡ 0 → repeats less (domains_at place fs) ≡ false
  unfolding repeated domains_at fields_at all_of is_numbered repeats
  names_apart more less [] h n r = refl
  names_apart more less (f ∷ fs) h n r = go (is_at place f) refl (λ m k g q. names_apart m k fs g (both_right (is_numbered f) (all_of is_numbered fs) n) q)
    where
      none : (repeats more (domain_named f) ≡ false) × (repeated domain_named (domain_named f ++ more) fs ≡ 0)
      none = none_here (repeats more (domain_named f)) f.line (repeated domain_named (domain_named f ++ more) fs) (both_left _ _ n) r

      go : (t : Bool) → is_at place f ≡ t → ((more less : List (List ℕ)) → Fewer more less → repeated domain_named more fs ≡ 0 → repeats less (domains_at place fs) ≡ false)
          → repeats less (map (λ f. f.value) (cond t (f ∷ fields_at place fs) (fields_at place fs))) ≡ false
      go true e rest =
          let v : repeats more (f.value ∷ []) ≡ false = rw (gives f e) at none.0 in
          let q : repeated domain_named (f.value ∷ more) fs ≡ 0 = rw (gives f e) at none.1 in
          neither (among f.value less) (repeats (f.value ∷ less) (domains_at place fs)) (h f.value (neither_left (among f.value more) _ v))
          (rest (f.value ∷ more) (f.value ∷ less) (fewer_both f.value more less h) q)
      go false e rest = rest (domain_named f ++ more) less (fewer_named f more less h) none.1

  pub domains_apart : (fs : List Field) → all_of is_numbered fs ≡ true → named_twice fs ≡ 0 → repeats [] (domains_at place fs) ≡ false
  unfolding named_twice all_of
  domains_apart fs n e = names_apart [] [] fs (λ x h. h) n (eqb-true _ 0 (both_left _ _ (earliest_none _ e)))
