-- A scan for the first line at fault answers no line only where nothing is at fault, since every line is at least 1.
use mathlib.Core.Path.{◌≡◌, refl, ap}
use mathlib.Core.Bool.{Bool, true, false, cond, not, ◌||◌}
use mathlib.Core.List.{List, [], ◌∷◌}
use Prim.Native.Nat.{ℕ, ◌+◌, ◌≤◌}
use native.Mathlib.Omega.{arith}
use lib.Dec.{eqb, ltb, leb}
use borrow.Author.Tests.{eqb-true, eqb-false, eq-eqb, leb-true, ltb-false}
use Rattle.paper.specs.Common.{all_of, any_of}
use Rattle.paper.specs.Page.{Field}
use Rattle.paper.specs.Entries.{line_of_entry}
use Rattle.paper.specs.Rules.{earlier, earliest, first_with, passing, same_principal, twin_after}
use Rattle.laws.proofs.Tests.{both_true, both_left, both_right, neither_left, neither_right}
use Rattle.laws.proofs.Counting.{all_of_weaker}
use Rattle.laws_page.specs.Right.{is_numbered}
use Rattle.laws_table.specs.Proper.{no_two}
use Rattle.laws_file.specs.Accepted.{total}

-- ---- of several lines none is one

earlier_none : (a b : ℕ) → earlier a b ≡ 0 → (a ≡ 0) × (b ≡ 0)
unfolding earlier
earlier_none a b h = go (eqb a 0) refl h
  where
    second : (t : Bool) → (eqb b 0 || ltb a b) ≡ t → eqb a 0 ≡ false → cond t a b ≡ 0 → (a ≡ 0) × (b ≡ 0)
    second true e n k = absurd (eqb-false a 0 n k)
    second false e n k = absurd (eqb-false b 0 (neither_left (eqb b 0) (ltb a b) e) k)

    go : (t : Bool) → eqb a 0 ≡ t → cond t b (cond (eqb b 0 || ltb a b) a b) ≡ 0 → (a ≡ 0) × (b ≡ 0)
    go true e k = (eqb-true a 0 e, k)
    go false e k = second (eqb b 0 || ltb a b) refl e k

-- the smallest of several lines is none where none of them is one
pub earliest_none : (lines : List ℕ) → earliest lines ≡ 0 → all_of (λ a. eqb a 0) lines ≡ true
unfolding earliest all_of
earliest_none [] h = refl
earliest_none (a ∷ lines) h =
    let e : (a ≡ 0) × (earliest lines ≡ 0) = earlier_none a (earliest lines) h in
    both_true (eqb a 0) _ (eq-eqb a 0 e.0) (earliest_none lines e.1)

-- a line that is at least 1 is one
pub none_here : (t : Bool) (line rest : ℕ) → leb 1 line ≡ true → cond t line rest ≡ 0 → (t ≡ false) × (rest ≡ 0)
none_here true line rest h e = absurd (omega (arith, leb-true 1 line h))
none_here false line rest h e = (refl, e)

-- no field is at fault
pub first_none : (test : Field → Bool) (fs : List Field) → all_of is_numbered fs ≡ true → first_with test fs ≡ 0 → all_of (λ f. not (test f)) fs ≡ true
unfolding first_with all_of is_numbered
first_none test [] n h = refl
first_none test (f ∷ fs) n h =
    let e : (test f ≡ false) × (first_with test fs ≡ 0) = none_here (test f) f.line (first_with test fs) (both_left _ _ n) h in
    both_true (not (test f)) _ (ap not e.0) (first_none test fs (both_right (leb 1 f.line) _ n) e.1)

-- the limit is not passed
module _ {A : Type 0} (line weight : A → ℕ) (limit : ℕ) where
  pub passing_none : (k : ℕ) (xs : List A) → all_of (λ x. leb 1 (line x)) xs ≡ true → k ≤ limit → passing line weight limit k xs ≡ 0 → k + total weight xs ≤ limit
  unfolding passing all_of total
  passing_none k [] n l h = omega arith
  passing_none k (x ∷ xs) n l h =
      let e : (ltb limit (k + weight x) ≡ false) × (passing line weight limit (k + weight x) xs ≡ 0) = none_here _ (line x) _ (both_left _ _ n) h in
      let m : k + weight x ≤ limit = ltb-false limit (k + weight x) e.0 in
      omega (arith, passing_none (k + weight x) xs (both_right (leb 1 (line x)) _ n) m e.1)

none_of : {A : Type 0} (test : A → Bool) (xs : List A) → any_of test xs ≡ false → all_of (λ x. not (test x)) xs ≡ true
unfolding any_of all_of
none_of test [] h = refl
none_of test (x ∷ xs) h = both_true (not (test x)) _ (ap not (neither_left (test x) _ h)) (none_of test xs (neither_right (test x) _ h))

-- no two entries have one principal; the later one comes first
pub twins_none : (seen es : List (List Field)) → all_of (λ e. leb 1 (line_of_entry e)) es ≡ true → twin_after seen es ≡ 0
    → (all_of (λ e. all_of (λ s. not (same_principal e s)) seen) es ≡ true) × (no_two (λ a b. same_principal b a) es ≡ true)
unfolding twin_after all_of no_two
twins_none seen [] n h = (refl, refl)
twins_none seen (e ∷ es) n h =
    let o : (any_of (same_principal e) seen ≡ false) × (twin_after (e ∷ seen) es ≡ 0) = none_here _ (line_of_entry e) _ (both_left _ _ n) h in
    let r = twins_none (e ∷ seen) es (both_right (leb 1 (line_of_entry e)) _ n) o.1 in (
      both_true _ _ (none_of (same_principal e) seen o.0) (all_of_weaker _ _ (λ b k. both_right (not (same_principal b e)) _ k) es r.0),
      both_true _ _ (all_of_weaker _ _ (λ b k. both_left (not (same_principal b e)) _ k) es r.0) r.1,
    )
