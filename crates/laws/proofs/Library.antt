-- What the library's methods and chains answer is the paper's word, by induction over the list: `==`, `starts_with`, `all`, `any`, and how far it is to the first that `position` finds.
use mathlib.Core.Path.{◌≡◌, refl, ap, ◌∙◌}
use mathlib.Core.Bool.{Bool, true, false, cond, not, ◌&&◌, ◌||◌}
use mathlib.Core.List.{List, [], ◌∷◌}
use Prim.Native.Nat.{ℕ, suc, ◌+◌}
use native.Mathlib.Omega.{arith}
use lib.Dec.{eqb, ltb}
use borrow.Author.Tests.{ltb-false}
use lib.ListN.{length, take}
use Rattle.std.specs.Cmp.Lexicographic.{pointwise}
use Rattle.std.specs.Prelude.{Option, Some, None}
use Rattle.std.specs.Option.{unwrap_or}
use Rattle.std.specs.List.{list_all, list_any, prefix_len, position}
use Rattle.std.proofs.lemmas.List.Sums.{prefix_len-le-length}
use Rattle.paper.specs.Common.{all_of, any_of, same, is_front_of}
use Rattle.laws.specs.Pieces.{before}

pub list_same : (x y : List ℕ) → pointwise eqb x y ≡ same x y
unfolding same
list_same [] [] = refl
list_same [] (y ∷ ys) = refl
list_same (x ∷ xs) [] = refl
list_same (x ∷ xs) (y ∷ ys) = ap (λ (b : Bool). eqb x y && b) (list_same xs ys)

pub list_front : (key s : List ℕ) → pointwise eqb key (take (length key) s) ≡ is_front_of key s
unfolding is_front_of
list_front [] s = refl
list_front (x ∷ xs) [] = refl
list_front (x ∷ xs) (y ∷ ys) = ap (λ (b : Bool). eqb x y && b) (list_front xs ys)

module _ {A : Type 0} (test : A → Bool) where
  pub list_all_of : (xs : List A) → list_all test xs ≡ all_of test xs
  unfolding all_of
  list_all_of [] = refl
  list_all_of (x ∷ xs) = ap (λ (b : Bool). test x && b) (list_all_of xs)

  pub list_any_of : (xs : List A) → list_any test xs ≡ any_of test xs
  unfolding any_of
  list_any_of [] = refl
  list_any_of (x ∷ xs) = ap (λ (b : Bool). test x || b) (list_any_of xs)

pub list_before : (c : ℕ) (s : List ℕ) → prefix_len (λ b. not (eqb b c)) s ≡ before c s
unfolding before
list_before c [] = refl
list_before c (b ∷ bs) = go (eqb b c) (list_before c bs)
  where
    go : (t : Bool) → prefix_len (λ b. not (eqb b c)) bs ≡ before c bs → cond (not t) (1 + prefix_len (λ b. not (eqb b c)) bs) 0 ≡ cond t 0 (suc (before c bs))
    go true e = refl
    go false e = omega (arith, e)

-- where the first element that passes stands, or the end
module _ {A : Type 0} (test : A → Bool) (s : List A) where
  pub list_position : (r : ℕ) (found : Option ℕ) → r ≡ unwrap_or found (length s) → found ≡ position test s → r ≡ prefix_len (λ x. not (test x)) s
  list_position r found e f = e ∙ ap (λ (o : Option ℕ). unwrap_or o (length s)) f ∙ go (ltb (prefix_len (λ x. not (test x)) s) (length s)) refl
    where
      go : (t : Bool) → ltb (prefix_len (λ x. not (test x)) s) (length s) ≡ t
          → unwrap_or (cond t (Some (prefix_len (λ x. not (test x)) s)) None) (length s) ≡ prefix_len (λ x. not (test x)) s
      go true h = refl
      go false h = omega (arith, ltb-false (prefix_len (λ x. not (test x)) s) (length s) h, prefix_len-le-length (λ x. not (test x)) s)

pub position_before : (c : ℕ) (s : List ℕ) (r : ℕ) (found : Option ℕ) → r ≡ unwrap_or found (length s) → found ≡ position (λ b. eqb b c) s → r ≡ before c s
position_before c s r found e f = list_position (λ b. eqb b c) s r found e f ∙ list_before c s
