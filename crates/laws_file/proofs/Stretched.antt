-- What holds of every field holds of the fields of a stretch, and of the value at a place among them.
use mathlib.Core.Path.{◌≡◌, refl}
use mathlib.Core.Bool.{Bool, true, false, cond, ◌&&◌, ◌||◌}
use mathlib.Core.List.{List, [], ◌∷◌, map}
use Prim.Native.Nat.{ℕ, ◌+◌}
use native.Mathlib.Omega.{arith}
use lib.Dec.{leb}
use lib.ListN.{length}
use borrow.Author.Tests.{eqb-true}
use Rattle.paper.specs.Common.{all_of, any_of}
use Rattle.paper.specs.Page.{Field}
use Rattle.paper.specs.Entries.{is_at, default_at, meant, value_at, fields_at, up_to_next, stretches_from, line_of_entry}
use Rattle.paper.specs.Rules.{one_at}
use Rattle.laws.proofs.Tests.{both_true, both_left, both_right}
use Rattle.laws_page.specs.Right.{is_numbered}
use Rattle.laws_file.specs.Accepted.{total}

-- ---- tests of every element

-- of each image
pub all_of_map : {A B : Type 0} (f : A → B) (test : B → Bool) (xs : List A) → all_of (λ x. test (f x)) xs ≡ true → all_of test (map f xs) ≡ true
unfolding all_of
all_of_map f test [] h = refl
all_of_map f test (x ∷ xs) h = both_true (test (f x)) _ (both_left (test (f x)) _ h) (all_of_map f test xs (both_right (test (f x)) _ h))

pub map_all_of : {A B : Type 0} (f : A → B) (test : B → Bool) (xs : List A) → all_of test (map f xs) ≡ true → all_of (λ x. test (f x)) xs ≡ true
unfolding all_of
map_all_of f test [] h = refl
map_all_of f test (x ∷ xs) h = both_true (test (f x)) _ (both_left (test (f x)) _ h) (map_all_of f test xs (both_right (test (f x)) _ h))

-- two tests at once
pub all_of_both : {A : Type 0} (f g : A → Bool) (xs : List A) → all_of f xs ≡ true → all_of g xs ≡ true → all_of (λ x. f x && g x) xs ≡ true
unfolding all_of
all_of_both f g [] p q = refl
all_of_both f g (x ∷ xs) p q =
    both_true (f x && g x) _ (both_true (f x) (g x) (both_left (f x) _ p) (both_left (g x) _ q)) (all_of_both f g xs (both_right (f x) _ p) (both_right (g x) _ q))

-- ---- the stretches that begin at a place

module _ (place : ℕ) where
  -- each of the fields of each stretch is one of the fields
  module _ (test : Field → Bool) where
    pub next_all : (fs : List Field) → all_of test fs ≡ true → all_of test (up_to_next place fs) ≡ true
    unfolding all_of up_to_next
    next_all [] h = refl
    next_all (f ∷ fs) h = go (is_at place f) (both_left (test f) _ h) (next_all fs (both_right (test f) _ h))
      where
        go : (t : Bool) → test f ≡ true → all_of test (up_to_next place fs) ≡ true → all_of test (cond t [] (f ∷ up_to_next place fs)) ≡ true
        go true p q = refl
        go false p q = both_true (test f) _ p q

    pub stretches_all : (fs : List Field) → all_of test fs ≡ true → all_of (all_of test) (stretches_from place fs) ≡ true
    unfolding all_of stretches_from
    stretches_all [] h = refl
    stretches_all (f ∷ fs) h = go (is_at place f) (stretches_all fs (both_right (test f) _ h))
      where
        go : (t : Bool) → all_of (all_of test) (stretches_from place fs) ≡ true → all_of (all_of test) (cond t ((f ∷ up_to_next place fs) ∷ stretches_from place fs) (stretches_from place fs)) ≡ true
        go true r = both_true (test f && all_of test (up_to_next place fs)) _ (both_true (test f) _ (both_left (test f) _ h) (next_all fs (both_right (test f) _ h))) r
        go false r = r

  -- the line of each is one
  pub stretches_numbered : (fs : List Field) → all_of is_numbered fs ≡ true → all_of (λ e. leb 1 (line_of_entry e)) (stretches_from place fs) ≡ true
  unfolding all_of stretches_from is_numbered line_of_entry
  stretches_numbered [] h = refl
  stretches_numbered (f ∷ fs) h = go (is_at place f) (stretches_numbered fs (both_right (leb 1 f.line) _ h))
    where
      go : (t : Bool) → all_of (λ e. leb 1 (line_of_entry e)) (stretches_from place fs) ≡ true
          → all_of (λ e. leb 1 (line_of_entry e)) (cond t ((f ∷ up_to_next place fs) ∷ stretches_from place fs) (stretches_from place fs)) ≡ true
      go true r = both_true (leb 1 f.line) _ (both_left (leb 1 f.line) _ h) r
      go false r = r

  -- there are as many of them as fields of the place
  pub stretches_counted : (fs : List Field) → length (stretches_from place fs) ≡ total (one_at place) fs
  unfolding stretches_from total one_at
  stretches_counted [] = refl
  stretches_counted (f ∷ fs) = go (is_at place f) (stretches_counted fs)
    where
      go : (t : Bool) → length (stretches_from place fs) ≡ total (one_at place) fs
          → length (cond t ((f ∷ up_to_next place fs) ∷ stretches_from place fs) (stretches_from place fs)) ≡ cond t 1 0 + total (one_at place) fs
      go true r = omega arith
      go false r = omega arith

  pub fields_counted : (fs : List Field) → length (fields_at place fs) ≡ total (one_at place) fs
  unfolding fields_at total one_at
  fields_counted [] = refl
  fields_counted (f ∷ fs) = go (is_at place f) (fields_counted fs)
    where
      go : (t : Bool) → length (fields_at place fs) ≡ total (one_at place) fs → length (cond t (f ∷ fields_at place fs) (fields_at place fs)) ≡ cond t 1 0 + total (one_at place) fs
      go true r = omega arith
      go false r = omega arith

-- ---- the value at a place: a field's, or the default where there is none

module _ (place : ℕ) (Holds : List ℕ → Type 0) (test : Field → Bool) (of_field : (f : Field) → test f ≡ true → f.place ≡ place → Holds (meant f)) where
  pub value_holds : (fs : List Field) → all_of test fs ≡ true → (any_of (is_at place) fs ≡ false → Holds (default_at place)) → Holds (value_at place fs)
  unfolding all_of any_of value_at
  value_holds [] h d = d refl
  value_holds (f ∷ fs) h d = go (is_at place f) refl d (value_holds fs (both_right (test f) _ h))
    where
      go : (t : Bool) → is_at place f ≡ t → ((t || any_of (is_at place) fs) ≡ false → Holds (default_at place))
          → ((any_of (is_at place) fs ≡ false → Holds (default_at place)) → Holds (value_at place fs)) → Holds (cond t (meant f) (value_at place fs))
      go true e d r = of_field f (both_left (test f) _ h) (eqb-true f.place place e)
      go false e d r = r d

-- ---- the fields of a place

-- what holds of every field holds of those of a place, which stand there
pub at_place : (p : ℕ) (test : Field → Bool) (fs : List Field) → all_of test fs ≡ true → all_of (λ f. test f && is_at p f) (fields_at p fs) ≡ true
unfolding all_of fields_at
at_place p test [] h = refl
at_place p test (f ∷ fs) h = go (is_at p f) refl (at_place p test fs (both_right (test f) _ h))
  where
    go : (b : Bool) → is_at p f ≡ b → all_of (λ f. test f && is_at p f) (fields_at p fs) ≡ true
        → all_of (λ f. test f && is_at p f) (cond b (f ∷ fields_at p fs) (fields_at p fs)) ≡ true
    go true e r = both_true (test f && is_at p f) _ (both_true (test f) _ (both_left (test f) _ h) e) r
    go false e r = r
