-- Lists that are counted up: `map f (count_up k n)` is f at each of n numbers from k on.
use mathlib.Core.Path.{◌≡◌, refl, sym, ap, ◌∙◌}
use mathlib.Core.Bool.{Bool, true}
use mathlib.Core.Logic.{⊎_elim}
use mathlib.Core.List.{List, [], ◌∷◌, ◌++◌, map, flat_map, append-nil, append_assoc, map-append}
use Prim.Native.Nat.{ℕ, zero, suc, ◌+◌, ◌-◌, ◌<◌, ◌≤◌}
use native.Mathlib.Nat.{zero-add, add-zero, suc-add, not-suc-le-zero, eq-or-lt_of_le}
use native.Mathlib.Numerals.{add-one}
use native.Mathlib.Omega.{arith}
use lib.ListN.{length, get_or, length-map}
use Rattle.paper.specs.Common.{all_of, count_up}
use Rattle.laws.proofs.Tests.{both_true, both_left, both_right}

-- ---- a test at every element of a list

pub all_of_at : {A : Type 0} (test : A → Bool) (d : A) (xs : List A) → all_of test xs ≡ true → (i : ℕ) → i < length xs → test (get_or xs i d) ≡ true
unfolding all_of
all_of_at test d [] p i h = absurd (not-suc-le-zero h)
all_of_at test d (x ∷ xs) p zero h = both_left (test x) (all_of test xs) p
all_of_at test d (x ∷ xs) p (suc i) h = all_of_at test d xs (both_right (test x) (all_of test xs) p) i (omega arith)

pub all_of_each : {A : Type 0} (test : A → Bool) (d : A) (xs : List A) → ((i : ℕ) → i < length xs → test (get_or xs i d) ≡ true) → all_of test xs ≡ true
unfolding all_of
all_of_each test d [] h = refl
all_of_each test d (x ∷ xs) h = both_true (test x) (all_of test xs) (h 0 (omega arith)) (all_of_each test d xs (λ i l. h (suc i) (omega arith)))

-- one test follows from the other
pub all_of_weaker : {A : Type 0} (f g : A → Bool) → ((x : A) → f x ≡ true → g x ≡ true) → (xs : List A) → all_of f xs ≡ true → all_of g xs ≡ true
unfolding all_of
all_of_weaker f g h [] p = refl
all_of_weaker f g h (x ∷ xs) p =
    both_true (g x) (all_of g xs) (h x (both_left (f x) (all_of f xs) p)) (all_of_weaker f g h xs (both_right (f x) (all_of f xs) p))

pub all_of_append_left : {A : Type 0} (test : A → Bool) (xs ys : List A) → all_of test (xs ++ ys) ≡ true → all_of test xs ≡ true
unfolding all_of
all_of_append_left test [] ys p = refl
all_of_append_left test (x ∷ xs) ys p =
    both_true (test x) (all_of test xs) (both_left (test x) (all_of test (xs ++ ys)) p) (all_of_append_left test xs ys (both_right (test x) (all_of test (xs ++ ys)) p))

pub all_of_append_right : {A : Type 0} (test : A → Bool) (xs ys : List A) → all_of test (xs ++ ys) ≡ true → all_of test ys ≡ true
unfolding all_of
all_of_append_right test [] ys p = p
all_of_append_right test (x ∷ xs) ys p = all_of_append_right test xs ys (both_right (test x) (all_of test (xs ++ ys)) p)

pub all_of_append : {A : Type 0} (test : A → Bool) (xs ys : List A) → all_of test xs ≡ true → all_of test ys ≡ true → all_of test (xs ++ ys) ≡ true
unfolding all_of
all_of_append test [] ys p q = q
all_of_append test (x ∷ xs) ys p q =
    both_true (test x) (all_of test (xs ++ ys)) (both_left (test x) (all_of test xs) p) (all_of_append test xs ys (both_right (test x) (all_of test xs) p) q)

-- ---- counting up

pub length_counted : (k n : ℕ) → length (count_up k n) ≡ n
unfolding count_up
length_counted k zero = refl
length_counted k (suc n) = ap suc (length_counted (k + 1) n)

pub counted_append : (k a b : ℕ) → count_up k (a + b) ≡ count_up k a ++ count_up (k + a) b
unfolding count_up
counted_append k zero b = rw (zero-add, add-zero)
counted_append k (suc a) b =
    let e : k + 1 + a ≡ k + suc a = omega arith in
    rw suc-add (ap (λ (l : List ℕ). k ∷ l) (counted_append (k + 1) a b ∙ ap (λ (m : ℕ). count_up (k + 1) a ++ count_up m b) e))

module _ {A : Type 0} (f : ℕ → A) where
  pub length_map_counted : (k n : ℕ) → length (map f (count_up k n)) ≡ n
  length_map_counted k n = length-map (count_up k n) f ∙ length_counted k n

  pub get_d_counted : (d : A) (k n i : ℕ) → i < n → get_or (map f (count_up k n)) i d ≡ f (k + i)
  unfolding count_up
  get_d_counted d k zero i h = absurd (not-suc-le-zero h)
  get_d_counted d k (suc n) zero h = rw add-zero
  get_d_counted d k (suc n) (suc i) h = let e : k + 1 + i ≡ k + suc i = omega arith in get_d_counted d (k + 1) n i (omega arith) ∙ ap f e

  -- a list is what f counts up, if whatever holds of it and its first number gives its head, and holds of the rest
  pub counted_list : (Holds : ℕ → List A → Type 0) → ((k : ℕ) (x : A) (xs : List A) → Holds k (x ∷ xs) → (f k ≡ x) × Holds (k + 1) xs)
      → (k : ℕ) (xs : List A) → Holds k xs → map f (count_up k (length xs)) ≡ xs
  unfolding count_up
  counted_list Holds step k [] h = refl
  counted_list Holds step k (x ∷ xs) h =
      let s : (f k ≡ x) × Holds (k + 1) xs = step k x xs h in
      let p : f k ≡ x = s.0 in
      let q : map f (count_up (k + 1) (length xs)) ≡ xs = counted_list Holds step (k + 1) xs s.1 in
      cc

  pub all_of_counted : (test : A → Bool) (k n : ℕ) → all_of test (map f (count_up k n)) ≡ true → (i : ℕ) → k ≤ i → i < k + n → test (f i) ≡ true
  unfolding count_up all_of
  all_of_counted test k zero p i h l = absurd (omega arith)
  all_of_counted test k (suc n) p i h l =
      ⊎_elim
      (λ (e : k ≡ i). rw e at (both_left (test (f k)) (all_of test (map f (count_up (k + 1) n))) p))
      (λ (m : k < i). all_of_counted test (k + 1) n (both_right (test (f k)) (all_of test (map f (count_up (k + 1) n))) p) i (omega arith) (omega arith))
      (eq-or-lt_of_le h)

  pub counted_all_of : (test : A → Bool) (k n : ℕ) → ((i : ℕ) → k ≤ i → i < k + n → test (f i) ≡ true) → all_of test (map f (count_up k n)) ≡ true
  unfolding count_up all_of
  counted_all_of test k zero h = refl
  counted_all_of test k (suc n) h =
      both_true (test (f k)) (all_of test (map f (count_up (k + 1) n))) (h k (omega arith) (omega arith)) (counted_all_of test (k + 1) n (λ i p q. h i (omega arith) (omega arith)))

-- ---- lists of lists

pub flat_map_append : {A B : Type 0} (f : A → List B) (xs ys : List A) → flat_map f (xs ++ ys) ≡ flat_map f xs ++ flat_map f ys
unfolding flat_map
flat_map_append f [] ys = refl
flat_map_append {B} f (x ∷ xs) ys = ap (λ (l : List B). f x ++ l) (flat_map_append f xs ys) ∙ sym (append_assoc (f x) (flat_map f xs) (flat_map f ys))

pub flat_map_flat_map : {A B C : Type 0} (f : B → List C) (g : A → List B) (xs : List A) → flat_map (λ x. flat_map f (g x)) xs ≡ flat_map f (flat_map g xs)
unfolding flat_map
flat_map_flat_map f g [] = refl
flat_map_flat_map {C} f g (x ∷ xs) = ap (λ (l : List C). flat_map f (g x) ++ l) (flat_map_flat_map f g xs) ∙ sym (flat_map_append f (g x) (flat_map g xs))

-- a test at every element of the lists is a test at every element of all of them together
pub all_of_flat_map : {A B : Type 0} (test : B → Bool) (f : A → List B) (xs : List A) → all_of (λ x. all_of test (f x)) xs ≡ true → all_of test (flat_map f xs) ≡ true
unfolding flat_map all_of
all_of_flat_map test f [] h = refl
all_of_flat_map test f (x ∷ xs) h =
    let own : all_of test (f x) ≡ true = both_left (all_of test (f x)) (all_of (λ x. all_of test (f x)) xs) h in
    all_of_append test (f x) (flat_map f xs) own (all_of_flat_map test f xs (both_right (all_of test (f x)) (all_of (λ x. all_of test (f x)) xs) h))

counted_one : (k : ℕ) → count_up k 1 ≡ k ∷ []
unfolding count_up
counted_one k = refl

counted_last : (n : ℕ) → count_up 0 (suc n) ≡ count_up 0 n ++ (n ∷ [])
counted_last n = rw (← add-one n, counted_append, counted_one, zero-add)

-- runs that follow one another from 0 on are one run
module _ {A B : Type 0} (f : ℕ → A) (run : A → List B) (g : ℕ → B) (start count : ℕ → ℕ) (none : start 0 ≡ 0) (more : (i : ℕ) → start (suc i) ≡ start i + count i)
    (runs : (i : ℕ) → run (f i) ≡ map g (count_up (start i) (count i))) where
  no_run : flat_map run (map f (count_up 0 0)) ≡ map g (count_up 0 0)
  unfolding flat_map count_up
  no_run = refl

  last_run : (n : ℕ) → flat_map run (map f (count_up 0 (suc n))) ≡ flat_map run (map f (count_up 0 n)) ++ run (f n)
  unfolding flat_map
  last_run n = rw (counted_last, map-append, flat_map_append, append-nil (run (f n)))

  joined : (n : ℕ) → map g (count_up 0 (start n)) ++ run (f n) ≡ map g (count_up 0 (start (suc n)))
  joined n = rw (runs n, more n, counted_append 0 (start n) (count n), zero-add, map-append)

  pub counted_runs : (n : ℕ) → flat_map run (map f (count_up 0 n)) ≡ map g (count_up 0 (start n))
  counted_runs zero = rw none no_run
  counted_runs (suc n) = last_run n ∙ ap (λ (l : List B). l ++ run (f n)) (counted_runs n) ∙ joined n

-- ---- a loop over counted numbers: what is left of them, i passed of n

pub counted_step : (k n i : ℕ) → i < n → count_up k (n - i) ≡ k ∷ count_up (k + 1) (n - (i + 1))
unfolding count_up
counted_step k n i h = let e : n - i ≡ suc (n - (i + 1)) = omega arith in rw e

pub counted_end : (k n i : ℕ) → n ≤ i → count_up k (n - i) ≡ []
unfolding count_up
counted_end k n i h = let e : n - i ≡ 0 = omega arith in rw e
