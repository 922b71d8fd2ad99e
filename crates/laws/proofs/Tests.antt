-- Laws of `◌&&◌`, of `◌||◌`, and of the paper's tests over numbers and lists.
use mathlib.Core.Path.{◌≡◌, refl, sym, ap, ◌∙◌}
use mathlib.Core.Bool.{Bool, true, false, cond, not, ◌&&◌, ◌||◌}
use mathlib.Core.Logic.{◌⊎◌, inl, inr, ⊎_elim, dite}
use mathlib.Core.List.{List, [], ◌∷◌}
use Prim.Native.Nat.{ℕ, zero, suc, ◌+◌, ◌-◌, ◌<◌, ◌≤◌}
use native.Mathlib.Nat.{le_of_suc-le-suc, not-suc-le-zero, eq-or-lt_of_le}
use native.Mathlib.Numerals.{add-one}
use native.Mathlib.Decide.{ℕ_discrete, dec_lt}
use native.Mathlib.Omega.{arith}
use lib.Dec.{eqb, ltb, leb}
use lib.ListN.{length, get_or, drop, drop_of_length-le}
use lib.Seq.{drop-cons}
use borrow.Author.Tests.{eqb-true, eqb-false, leb-true, leb-false, eq-eqb, ne_eqb, lt-ltb, le-ltb, not-true, not-false}
use Rattle.paper.specs.Common.{up_to, same}

pub both_true : (a b : Bool) → a ≡ true → b ≡ true → (a && b) ≡ true
both_true true b p q = q
both_true false b p q = p

pub both_left : (a b : Bool) → (a && b) ≡ true → a ≡ true
both_left true b p = refl
both_left false b p = p

pub both_right : (a b : Bool) → (a && b) ≡ true → b ≡ true
both_right true b p = p
both_right false b p = cc

pub both_of : (a b : Bool) → (a && b) ≡ true → (a ≡ true) × (b ≡ true)
both_of a b h = (both_left a b h, both_right a b h)

pub both_false : (a b : Bool) → b ≡ false → (a && b) ≡ false
both_false true b p = p
both_false false b p = refl

pub either_left : (a b : Bool) → a ≡ true → (a || b) ≡ true
either_left true b p = refl
either_left false b p = cc

pub either_right : (a b : Bool) → b ≡ true → (a || b) ≡ true
either_right true b p = refl
either_right false b p = p

pub either_of : (a b : Bool) → (a || b) ≡ true → (a ≡ true) ⊎ (b ≡ true)
either_of true b p = inl refl
either_of false b p = inr p

pub neither : (a b : Bool) → a ≡ false → b ≡ false → (a || b) ≡ false
neither true b p q = p
neither false b p q = q

pub neither_left : (a b : Bool) → (a || b) ≡ false → a ≡ false
neither_left true b p = p
neither_left false b p = refl

pub neither_right : (a b : Bool) → (a || b) ≡ false → b ≡ false
neither_right true b p = cc
neither_right false b p = p

-- k taken from one side or added to the other
pub ltb_shifted : (k w m : ℕ) → k ≤ w → ltb (w - k) m ≡ ltb w (k + m)
ltb_shifted k w m h =
    dite (dec_lt (w - k) m)
    (λ (l : w - k < m). lt-ltb (w - k) m l ∙ sym (lt-ltb w (k + m) (omega arith)))
    (λ (l : ¬ (w - k < m)). le-ltb (w - k) m (omega arith) ∙ sym (le-ltb w (k + m) (omega arith)))

-- two equalities that say the same
pub eqb_same : (a b c d : ℕ) → (a ≡ b → c ≡ d) → (c ≡ d → a ≡ b) → eqb a b ≡ eqb c d
eqb_same a b c d f g =
    dite (ℕ_discrete a b) (λ p. eq-eqb a b p ∙ sym (eq-eqb c d (f p))) (λ n. ne_eqb a b n ∙ sym (ne_eqb c d (λ q. n (g q))))

-- ---- a test at every number below n

pub up_to_none : (f : ℕ → Bool) → up_to f 0 ≡ true
unfolding up_to
up_to_none f = refl

pub up_to_more : (f : ℕ → Bool) (i : ℕ) → up_to f i ≡ true → f i ≡ true → up_to f (i + 1) ≡ true
unfolding up_to
up_to_more f i p q = rw add-one (both_true (up_to f i) (f i) p q)

-- it holds at each number below
pub up_to_at : (f : ℕ → Bool) (n : ℕ) → up_to f n ≡ true → (k : ℕ) → k < n → f k ≡ true
unfolding up_to
up_to_at f zero p k h = absurd (not-suc-le-zero h)
up_to_at f (suc n) p k h =
    ⊎_elim
    (λ (e : k ≡ n). ap f e ∙ both_right (up_to f n) (f n) p)
    (λ (l : k < n). up_to_at f n (both_left (up_to f n) (f n) p) k l)
    (eq-or-lt_of_le (le_of_suc-le-suc h))

-- it fails where it fails at one number below
pub up_to_fails : (f : ℕ → Bool) (n k : ℕ) → k < n → f k ≡ false → up_to f n ≡ false
unfolding up_to
up_to_fails f zero k h p = absurd (not-suc-le-zero h)
up_to_fails f (suc n) k h p =
    ⊎_elim
    (λ (e : k ≡ n). both_false (up_to f n) (f n) (ap f (sym e) ∙ p))
    (λ (l : k < n). ap (λ (b : Bool). b && f n) (up_to_fails f n k l p))
    (eq-or-lt_of_le (le_of_suc-le-suc h))

pub up_to_all : (f : ℕ → Bool) (n : ℕ) → ((k : ℕ) → k < n → f k ≡ true) → up_to f n ≡ true
unfolding up_to
up_to_all f zero h = refl
up_to_all f (suc n) h = both_true (up_to f n) (f n) (up_to_all f n (λ k l. h k (omega arith))) (h n (omega arith))

-- two tests that agree below n
pub up_to_same : (f g : ℕ → Bool) (n : ℕ) → ((k : ℕ) → k < n → f k ≡ g k) → up_to f n ≡ up_to g n
unfolding up_to
up_to_same f g zero h = refl
up_to_same f g (suc n) h =
    ap (λ (b : Bool). b && f n) (up_to_same f g n (λ k l. h k (omega arith))) ∙ ap (λ (b : Bool). up_to g n && b) (h n (omega arith))

-- at a loop's end
pub up_to_done : (f : ℕ → Bool) (n i : ℕ) → n ≤ i → i ≤ n → up_to f i ≡ true → up_to f n ≡ true
up_to_done f n i p q h = let e : i ≡ n = omega arith in rw e at h

-- ---- the same stretch

pub same_refl : (x : List ℕ) → same x x ≡ true
unfolding same
same_refl [] = refl
same_refl (b ∷ bs) = both_true (eqb b b) (same bs bs) (eq-eqb b b refl) (same_refl bs)

pub same_equal : (x y : List ℕ) → same x y ≡ true → x ≡ y
unfolding same
same_equal [] [] h = refl
same_equal [] (c ∷ cs) h = absurd (let z : ◌≡◌ {A = ℕ} 0 1 = cc in omega arith)
same_equal (b ∷ bs) [] h = absurd (let z : ◌≡◌ {A = ℕ} 0 1 = cc in omega arith)
same_equal (b ∷ bs) (c ∷ cs) h =
    let p : b ≡ c = eqb-true b c (both_left (eqb b c) (same bs cs) h) in
    let q : bs ≡ cs = same_equal bs cs (both_right (eqb b c) (same bs cs) h) in
    cc

-- they differ where their lengths do
pub same_lengths : (x y : List ℕ) → (length x ≡ length y → ⊥) → false ≡ same x y
same_lengths x y apart = go (same x y) refl
  where
    go : (b : Bool) → same x y ≡ b → false ≡ b
    go true e = absurd (apart (ap length (same_equal x y e)))
    go false e = refl

-- what is left of two stretches, one element on
pub same_step : (x y : List ℕ) (i : ℕ) → i < length x → length x ≡ length y → same (drop i x) (drop i y) ≡ (eqb (get_or x i 0) (get_or y i 0) && same (drop (i + 1) x) (drop (i + 1) y))
unfolding same
same_step x y i h e = let k : i < length y = omega arith in rw (add-one i, drop-cons x i 0, drop-cons y i 0)

pub same_again :
    (x y : List ℕ) (i : ℕ) → i < length x → length x ≡ length y → get_or x i 0 ≡ get_or y i 0 → same (drop i x) (drop i y) ≡ same x y → same (drop (i + 1) x) (drop (i + 1) y) ≡ same x y
same_again x y i h e g inv = rw (← inv, same_step x y i h e, eq-eqb _ _ g)

pub same_differs :
    (x y : List ℕ) (i : ℕ) → i < length x → length x ≡ length y → (get_or x i 0 ≡ get_or y i 0 → ⊥) → same (drop i x) (drop i y) ≡ same x y → false ≡ same x y
same_differs x y i h e g inv = rw (← inv, same_step x y i h e, ne_eqb _ _ g)

pub same_ends : (x y : List ℕ) (i : ℕ) → length x ≤ i → length x ≡ length y → same (drop i x) (drop i y) ≡ same x y → true ≡ same x y
unfolding same
same_ends x y i h e inv = let k : length y ≤ i = omega arith in rw (← inv, drop_of_length-le x h, drop_of_length-le y k)

-- ---- a loop over the numbers below n, with a function that makes the test

pub tests_again : (f : ℕ → Bool) (i : ℕ) (r : Bool) → up_to f i ≡ true → r ≡ f i → not r ≡ false → up_to f (i + 1) ≡ true
tests_again f i r inv e h = up_to_more f i inv (sym e ∙ not-false r h)

pub test_fails : (f : ℕ → Bool) (n i : ℕ) (r : Bool) → i < n → r ≡ f i → not r ≡ true → false ≡ up_to f n
test_fails f n i r l e h = sym (up_to_fails f n i l (sym e ∙ not-true r h))

pub tests_done : (f : ℕ → Bool) (n i : ℕ) → n ≤ i → i ≤ n → up_to f i ≡ true → true ≡ up_to f n
tests_done f n i p q h = sym (up_to_done f n i p q h)

-- ---- one test below n, another from n on

module _ (f g : ℕ → Bool) (n m : ℕ) where
  pub up_to_first : up_to (λ k. cond (ltb k n) (f k) (g k)) m ≡ true → (k : ℕ) → k < n → k < m → f k ≡ true
  up_to_first h k p q = rw (lt-ltb k n p) at (up_to_at (λ k. cond (ltb k n) (f k) (g k)) m h k q)

  pub up_to_rest : up_to (λ k. cond (ltb k n) (f k) (g k)) m ≡ true → (k : ℕ) → n ≤ k → k < m → g k ≡ true
  up_to_rest h k p q = rw (le-ltb k n p) at (up_to_at (λ k. cond (ltb k n) (f k) (g k)) m h k q)

  pub up_to_both : ((k : ℕ) → k < n → k < m → f k ≡ true) → ((k : ℕ) → n ≤ k → k < m → g k ≡ true) → up_to (λ k. cond (ltb k n) (f k) (g k)) m ≡ true
  up_to_both p q = up_to_all (λ k. cond (ltb k n) (f k) (g k)) m (λ k l. dite (dec_lt k n)
      (λ (a : k < n). rw (lt-ltb k n a) (p k a l))
      (λ (a : ¬ (k < n)). rw (le-ltb k n (omega arith)) (q k (omega arith) l)))

-- two tests that pass together are one
pub same_test : (a b : Bool) → (a ≡ true → b ≡ true) → (b ≡ true → a ≡ true) → a ≡ b
same_test true b p q = sym (p refl)
same_test false true p q = q refl
same_test false false p q = refl

-- ---- two numbers in order
pub le_or_lt : (a b : ℕ) → (a ≤ b) ⊎ (b < a)
le_or_lt a b = go (leb a b) refl
  where
    go : (t : Bool) → leb a b ≡ t → (a ≤ b) ⊎ (b < a)
    go true e = inl (leb-true a b e)
    go false e = inr (leb-false a b e)

pub same_or_not : (x k : ℕ) → (x ≡ k) ⊎ (x ≡ k → ⊥)
same_or_not x k = go (eqb x k) refl
  where
    go : (t : Bool) → eqb x k ≡ t → (x ≡ k) ⊎ (x ≡ k → ⊥)
    go true e = inl (eqb-true x k e)
    go false e = inr (eqb-false x k e)
