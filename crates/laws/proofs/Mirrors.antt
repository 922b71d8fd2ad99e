-- What std's chains and comparisons answer, in the paper's words: `all` over the numbers below n or over a part of some words is `up_to`, `==` is `same`.
use mathlib.Core.Path.{◌≡◌, refl, sym, ap, ◌∙◌}
use mathlib.Core.Bool.{Bool, true, ◌&&◌, and-true, and_assoc}
use mathlib.Core.List.{List, [], ◌∷◌}
use Prim.Native.Nat.{ℕ, zero, suc, ◌+◌}
use native.Mathlib.Omega.{arith}
use lib.Dec.{eqb}
use lib.ListN.{get_or, take, drop}
use lib.Seq.{get_or-drop}
use denote.Param.Members.{Mut}
use denote.Ref.{Bor}
use Rattle.std.specs.declared.slice.Iter.{Iter}
use Rattle.std.proofs.iter.Yields.{fronts, nat_range_steps}
use Rattle.std.proofs.lemmas.Iterator.{YieldsList-from_range, YieldsList-from_slice}
use Rattle.std.proofs.lemmas.Iterator.Consumers.{fold_from_yields_List}
use Rattle.std.proofs.lemmas.Iterator.Search.{all_from_yields_List}
use Rattle.std.specs.declared.ops.Range.{Range}
use Rattle.std.specs.Fn.{Called}
use Rattle.std.specs.Iterator.{ChecksAll, FoldsItems}
use Rattle.std.specs.List.{list_all, range_with_len, fold}
use Rattle.std.specs.Cmp.Lexicographic.{pointwise}
use Rattle.std.specs.Slice.Iter.{iter_rest}
use Rattle.paper.specs.Common.{up_to, same}
use Rattle.laws.proofs.Tests.{up_to_same, up_to_all, both_true}

-- the first number tested by itself
up_to_first : (f : ℕ → Bool) (n : ℕ) → up_to f (suc n) ≡ (f 0 && up_to (λ k. f (suc k)) n)
unfolding up_to
up_to_first f zero = sym (and-true (f 0))
up_to_first f (suc n) = ap (λ (b : Bool). b && f (suc n)) (up_to_first f n) ∙ and_assoc (f 0) (up_to (λ k. f (suc k)) n) (f (suc n))

all_from : (f : ℕ → Bool) (a n : ℕ) → list_all f (range_with_len a n) ≡ up_to (λ k. f (a + k)) n
unfolding up_to
all_from f a zero = refl
all_from f a (suc n) =
    let first : a + 0 ≡ a = omega arith in
    let rest : up_to (λ k. f (a + 1 + k)) n ≡ up_to (λ k. f (a + suc k)) n = up_to_same _ _ n (λ k l. ap f (omega arith)) in
    ap (λ (b : Bool). f a && b) (all_from f (a + 1) n ∙ rest) ∙ ap (λ (b : Bool). b && up_to (λ k. f (a + suc k)) n) (ap f (sym first)) ∙ sym (up_to_first (λ k. f (a + k)) n)

-- the numbers below n
pub all_below : (f : ℕ → Bool) (n : ℕ) → list_all f (range_with_len 0 n) ≡ up_to f n
all_below f n = all_from f 0 n ∙ up_to_same _ _ n (λ k l. ap f (omega arith))

-- the first n words; past the end a word reads as 0, which passes
all_first : (test : ℕ → Bool) → test 0 ≡ true → (n : ℕ) (ws : List ℕ) → list_all test (take n ws) ≡ up_to (λ i. test (get_or ws i 0)) n
unfolding up_to
all_first test z zero ws = refl
all_first test z (suc n) [] = sym (both_true _ _ (up_to_all _ n (λ k l. z)) z)
all_first test z (suc n) (x ∷ xs) = ap (λ (b : Bool). test x && b) (all_first test z n xs) ∙ sym (up_to_first (λ i. test (get_or (x ∷ xs) i 0)) n)

-- n words from a place on
pub all_part : (test : ℕ → Bool) → test 0 ≡ true → (ws : List ℕ) (at n : ℕ) → list_all test (take n (drop at ws)) ≡ up_to (λ i. test (get_or ws (at + i) 0)) n
all_part test z ws at n = all_first test z n (drop at ws) ∙ up_to_same _ _ n (λ i l. ap test (get_or-drop at ws i 0))

-- ---- the calls of `all`: what they did, and that the closure is the test

module _ {F : Type 0} {r : Bool} (test : ℕ → Bool) where
  pub below_tested :
      {g : Mut F (ℕ × Unit {0}) Bool} {s u : Range ℕ} {f : F} (n : ℕ) → ChecksAll nat_range_steps g s f r u → s ≡ record { start = 0; end = n }
      → ((x : ℕ) (b : Bool) (q : F) → Called g f (x, tt) b q → (q ≡ f) × (b ≡ test x)) → r ≡ up_to test n
  below_tested n ran from same = all_from_yields_List test _ _ r ran (YieldsList-from_range 0 n n from (omega arith)) same ∙ all_below test n

  pub part_tested :
      {g : Mut F (Bor ℕ × Unit {0}) Bool} {s u : Iter ℕ} {f : F} (ws part : List ℕ) (at n : ℕ) → test 0 ≡ true → part ≡ take n (drop at ws) → ChecksAll fronts g s f r u
      → iter_rest s ≡ part → ((x : Bor ℕ) (b : Bool) (q : F) → Called g f (x, tt) b q → (q ≡ f) × (b ≡ test x.now)) → r ≡ up_to (λ i. test (get_or ws (at + i) 0)) n
  part_tested ws part at n passes is ran from same =
      all_from_yields_List test _ _ r ran (YieldsList-from_slice part from) same ∙ rw is (all_part test passes ws at n)

-- ---- `==` of two slices

pub same_slices : (x y : List ℕ) → pointwise eqb x y ≡ same x y
unfolding same
same_slices [] [] = refl
same_slices [] (y ∷ ys) = refl
same_slices (x ∷ xs) [] = refl
same_slices (x ∷ xs) (y ∷ ys) = ap (λ (b : Bool). eqb x y && b) (same_slices xs ys)

-- ---- a fold that tests every element

folds_and : (test : ℕ → Bool) (xs : List ℕ) (so_far : Bool) → fold (λ b x. b && test x) so_far xs ≡ (so_far && list_all test xs)
folds_and test [] b = sym (and-true b)
folds_and test (x ∷ xs) b = folds_and test xs (b && test x) ∙ and_assoc b (test x) (list_all test xs)

pub fold_tested :
    {F : Type 0} {r : Bool} (test : ℕ → Bool) {g : Mut F (Bool × (Bor ℕ × Unit {0})) Bool} {s : Iter ℕ} {f : F} (xs : List ℕ) → FoldsItems fronts g s f true r
    → iter_rest s ≡ xs → ((b : Bool) (x : Bor ℕ) (c : Bool) (q : F) → Called g f (b, (x, tt)) c q → (q ≡ f) × (c ≡ (b && test x.now))) → r ≡ list_all test xs
fold_tested {r = r} test {g = g} xs ran from same = fold_from_yields_List g (λ b x. b && test x) true r ran (YieldsList-from_slice xs from) same ∙ folds_and test xs true
