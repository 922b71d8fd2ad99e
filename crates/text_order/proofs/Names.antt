-- A list has a name twice exactly if one of its names stands again behind itself.
use mathlib.Core.Path.{◌≡◌, refl}
use mathlib.Core.Bool.{Bool, true, false, ◌||◌}
use mathlib.Core.List.{List, [], ◌∷◌}
use Prim.Native.Nat.{ℕ}
use Rattle.paper.specs.Common.{same, any_of, among}
use Rattle.paper.specs.Rules.{repeats}
use Rattle.laws.proofs.Tests.{same_refl, same_equal, same_test}

same_sym : (x y : List ℕ) → same x y ≡ same y x
same_sym x y = same_test (same x y) (same y x) (turned x y) (turned y x)
  where
    turned : (x y : List ℕ) → same x y ≡ true → same y x ≡ true
    turned x y h = rw (same_equal x y h) (same_refl y)

either_order : (a b c d e : Bool) → (a || b || (c || (d || e))) ≡ (a || d || (b || (c || e)))
either_order true b c d e = refl
either_order false true c true e = refl
either_order false true c false e = refl
either_order false false true true e = refl
either_order false false true false e = refl
either_order false false false d e = refl

repeats_seen : (x : List ℕ) (seen xs : List (List ℕ)) → repeats (x ∷ seen) xs ≡ (among x xs || repeats seen xs)
unfolding repeats among any_of
repeats_seen x seen [] = refl
repeats_seen x seen (y ∷ ys) =
    rw (repeats_seen y (x ∷ seen) ys, repeats_seen x seen ys, repeats_seen y seen ys, same_sym y x)
    (either_order (same x y) (among y seen) (among y ys) (among x ys) (repeats seen ys))

pub repeats_first : (x : List ℕ) (xs : List (List ℕ)) → repeats [] (x ∷ xs) ≡ (among x xs || repeats [] xs)
unfolding repeats among any_of
repeats_first x xs = repeats_seen x [] xs

pub repeats_none : repeats [] [] ≡ false
unfolding repeats
repeats_none = refl
