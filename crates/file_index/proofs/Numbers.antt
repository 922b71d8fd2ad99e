-- The number of a name in a list of names, by induction on the list: what it says of the list, and what more names change.
use mathlib.Core.Path.{◌≡◌, refl, sym, ap}
use mathlib.Core.Bool.{Bool, true, false, cond, ◌||◌}
use mathlib.Core.List.{List, [], ◌∷◌, ◌++◌}
use Prim.Native.Nat.{ℕ, ◌+◌, ◌<◌, ◌≤◌}
use native.Mathlib.Nat.{not-suc-le-zero, zero-add}
use native.Mathlib.Numerals.{add-one}
use native.Mathlib.Omega.{arith}
use lib.Dec.{ltb, leb-suc-suc}
use lib.ListN.{length}
use borrow.Author.Tests.{lt-ltb}
use Rattle.paper.specs.Common.{same, any_of, among, number_in}
use Rattle.laws.proofs.Tests.{same_refl, same_equal, same_test}

same_turned : (x y : List ℕ) → same x y ≡ true → same y x ≡ true
same_turned x y h = let e : x ≡ y = same_equal x y h in rw e (same_refl y)

pub same_sym : (x y : List ℕ) → same x y ≡ same y x
same_sym x y = same_test (same x y) (same y x) (same_turned x y) (same_turned y x)

-- a test of one list, then of more
pub any_more : {A : Type 0} (test : A → Bool) (xs ys : List A) → any_of test (xs ++ ys) ≡ (any_of test xs || any_of test ys)
unfolding any_of
any_more test [] ys = refl
any_more test (x ∷ xs) ys = go (test x) (any_more test xs ys)
  where
    go : (b : Bool) → any_of test (xs ++ ys) ≡ (any_of test xs || any_of test ys) → (b || any_of test (xs ++ ys)) ≡ (b || any_of test xs || any_of test ys)
    go true e = refl
    go false e = e

-- a name is among these or among more
pub among_more : (s : List ℕ) (names more : List (List ℕ)) → among s (names ++ more) ≡ (among s names || among s more)
unfolding among
among_more s names more = any_more (same s) names more

pub number_within : (names : List (List ℕ)) (s : List ℕ) → number_in names s ≤ length names
unfolding number_in
number_within [] s = omega arith
number_within (name ∷ names) s = go (same name s) (number_within names s)
  where
    go : (b : Bool) → number_in names s ≤ length names → cond b 0 (number_in names s + 1) ≤ length (name ∷ names)
    go true l = omega arith
    go false l = omega arith

-- a name stands in the list exactly when its number is below the length
pub among_number : (s : List ℕ) (names : List (List ℕ)) → among s names ≡ ltb (number_in names s) (length names)
unfolding among any_of number_in
among_number s [] = refl
among_number s (name ∷ names) = rw (same_sym s name) (go (same name s) (among_number s names))
  where
    go : (b : Bool) → any_of (same s) names ≡ ltb (number_in names s) (length names)
        → (b || any_of (same s) names) ≡ ltb (cond b 0 (number_in names s + 1)) (length (name ∷ names))
    go true e = sym (lt-ltb 0 (length (name ∷ names)) (omega arith))
    go false e = rw (add-one, leb-suc-suc) e

-- more names leave the number of a name that is among these
pub number_kept : (names more : List (List ℕ)) (s : List ℕ) → number_in names s < length names → number_in (names ++ more) s ≡ number_in names s
unfolding number_in
number_kept [] more s h = absurd (not-suc-le-zero h)
number_kept (name ∷ names) more s h = go (same name s) h (λ l. number_kept names more s l)
  where
    go : (b : Bool) → cond b 0 (number_in names s + 1) < length (name ∷ names) → (number_in names s < length names → number_in (names ++ more) s ≡ number_in names s)
        → cond b 0 (number_in (names ++ more) s + 1) ≡ cond b 0 (number_in names s + 1)
    go true l on = refl
    go false l on = ap (λ (k : ℕ). k + 1) (on (omega arith))

-- any other name is numbered on through them
pub number_on : (names more : List (List ℕ)) (s : List ℕ) → length names ≤ number_in names s → number_in (names ++ more) s ≡ length names + number_in more s
unfolding number_in
number_on [] more s h = sym (zero-add (number_in more s))
number_on (name ∷ names) more s h = go (same name s) h (λ l. number_on names more s l)
  where
    go : (b : Bool) → length (name ∷ names) ≤ cond b 0 (number_in names s + 1) → (length names ≤ number_in names s → number_in (names ++ more) s ≡ length names + number_in more s)
        → cond b 0 (number_in (names ++ more) s + 1) ≡ length (name ∷ names) + number_in more s
    go true l on = absurd (omega arith)
    go false l on = omega (arith, on (omega arith))
