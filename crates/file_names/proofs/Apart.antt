-- Words that a set takes once each show that no name stands twice, whatever numbers names.
use mathlib.Core.Path.{◌≡◌, refl, sym, ap, ◌∙◌}
use mathlib.Core.Bool.{Bool, true, false, not, ◌&&◌}
use mathlib.Core.Logic.{⊎_elim}
use mathlib.Core.List.{List, [], ◌∷◌, map}
use Prim.Native.Nat.{ℕ, ◌+◌, ◌<◌, ◌≤◌}
use native.Mathlib.Omega.{arith}
use native.Mathlib.Numerals.{add-one}
use lib.Dec.{eqb, ltb}
use lib.ListN.{length, get_or, drop, drop_of_length-le}
use lib.Seq.{drop-cons}
use borrow.Author.Tests.{eq-eqb, lt-ltb, le-ltb, ltb-true, not-true}
use Rattle.paper.specs.Common.{same, any_of, among}
use Rattle.paper.specs.Limits.{most_domains}
use Rattle.paper.specs.Rules.{repeats}
use Rattle.paper.specs.Table.{is_in, with_domain}
use Rattle.laws.proofs.Tests.{both_left, both_right, either_of, either_right, neither, same_equal}
use Rattle.laws.proofs.Sets.{contains_after_insert, length_after_insert}
use Rattle.file_names.specs.Separate.{separate}

module _ (number : List ℕ → ℕ) where
  -- the set has the number of every name seen
  abbrev HasAll : List ℕ → List (List ℕ) → Type 0
  HasAll set seen = (x : List ℕ) → among x seen ≡ true → is_in set (number x) ≡ true

  has_more : (set : List ℕ) (seen : List (List ℕ)) (x : List ℕ) → length set ≡ 8 → number x < most_domains → HasAll set seen → HasAll (with_domain set (number x)) (x ∷ seen)
  unfolding among any_of
  has_more set seen x l b h y k =
      contains_after_insert set (number x) (number y) (omega arith)
      ∙ ⊎_elim
      (λ (p : same y x ≡ true). let e : y ≡ x = same_equal y x p in rw (e, eq-eqb (number x) (number x) refl) refl)
      (λ (p : among y seen ≡ true). either_right (eqb (number y) (number x)) (is_in set (number y)) (h y p))
      (either_of (same y x) (among y seen) k)

  separate_names : (xs seen : List (List ℕ)) (set : List ℕ) → length set ≡ 8 → HasAll set seen → separate set (map number xs) ≡ true → repeats seen xs ≡ false
  unfolding separate repeats
  separate_names [] seen set l h k = refl
  separate_names (x ∷ xs) seen set l h k =
      let a : ltb (number x) most_domains ≡ true = both_left _ _ (both_left (ltb (number x) most_domains && not (is_in set (number x))) _ k) in
      let b : is_in set (number x) ≡ false = not-true _ (both_right (ltb (number x) most_domains) _ (both_left (ltb (number x) most_domains && not (is_in set (number x))) _ k)) in
      let d : separate (with_domain set (number x)) (map number xs) ≡ true = both_right (ltb (number x) most_domains && not (is_in set (number x))) _ k in
      neither (among x seen) _ (new (among x seen) refl b)
      (separate_names xs (x ∷ seen) (with_domain set (number x)) (length_after_insert set (number x) ∙ l) (has_more set seen x l (ltb-true _ _ a) h) d)
    where
      new : (t : Bool) → among x seen ≡ t → is_in set (number x) ≡ false → t ≡ false
      new true e b = sym (h x e) ∙ b
      new false e b = refl

  none_seen : (set : List ℕ) → HasAll set []
  unfolding among any_of
  none_seen set x h = absurd (let z : ◌≡◌ {A = ℕ} 0 1 = cc in omega arith)

  pub separate_once : (xs : List (List ℕ)) (set : List ℕ) → length set ≡ 8 → separate set (map number xs) ≡ true → repeats [] xs ≡ false
  separate_once xs set l k = separate_names xs [] set l (none_seen set) k

-- ---- the walk over the words: what is left is separate exactly when all are

module _ (words seen : List ℕ) (i : ℕ) (whole : Bool) (inv : separate seen (drop i words) ≡ whole) where
  pub separate_done : length words ≤ i → true ≡ whole
  unfolding separate
  separate_done h = rw (drop_of_length-le words h) at inv

  module _ (h : i < length words) (k : ℕ) (e : k ≡ get_or words i 0) where
    separate_step : (ltb k most_domains && not (is_in seen k) && separate (with_domain seen k) (drop (i + 1) words)) ≡ whole
    unfolding separate
    separate_step = rw (e, add-one) (rw (drop-cons words i 0 h) at inv)

    pub separate_high : 128 ≤ k → false ≡ whole
    separate_high l = rw (le-ltb k 128 l) at separate_step

    module _ (l : k < 128) (b : Bool) (g : b ≡ is_in seen k) where
      pub separate_seen : b ≡ true → false ≡ whole
      separate_seen d = rw (lt-ltb k 128 l, ← g, d) at separate_step

      pub separate_on : (after : List ℕ) → b ≡ false → after ≡ with_domain seen k → separate after (drop (i + 1) words) ≡ whole
      separate_on after d w = rw w (rw (lt-ltb k 128 l, ← g, d) at separate_step)

pub length_inserted_set : (seen after : List ℕ) (m : ℕ) → after ≡ with_domain seen m → length seen ≡ 8 → length after ≡ 8
length_inserted_set seen after m e l = ap length e ∙ length_after_insert seen m ∙ l
