-- The library's `starts_with` is the repository's word for a front: byte by byte. So are bytes that are compared eight at a time; and the way to a column.
use mathlib.Core.Path.{◌≡◌, refl, sym, ap, ◌∙◌}
use mathlib.Core.Bool.{Bool, true, false, cond, not, ◌&&◌}
use mathlib.Core.Logic.{dite}
use mathlib.Core.List.{List, [], ◌∷◌}
use Prim.Native.Nat.{ℕ, zero, suc, ◌+◌, ◌-◌, ◌<◌, ◌≤◌}
use native.Mathlib.Nat.{not-suc-le-zero}
use native.Mathlib.Decide.{dec_lt}
use native.Mathlib.Numerals.{add-one}
use native.Mathlib.Omega.{arith}
use lib.Dec.{eqb, eqb-suc-suc}
use lib.ListN.{length, get_or, take, drop, length-drop}
use lib.Seq.{take_all}
use borrow.Author.Tests.{eqb-true, eqb-false, eq-eqb, ne_eqb}
use Rattle.std.specs.Prelude.{MatchBool}
use Rattle.std.specs.List.{starts_with, list_all}
use Rattle.paper.specs.Common.{bytes, is_front_of}
use Rattle.paper.specs.Text.{space, column}
use Rattle.laws.proofs.Tests.{both_left, both_right}
use Rattle.text_lines.proofs.Laws.{column_within}
use Rattle.text_keys.specs.Asked.{Alike}

pub front_is : (key l : List ℕ) → starts_with eqb l key ≡ is_front_of key l
unfolding is_front_of
front_is [] l = refl
front_is (k ∷ ks) [] = refl
front_is (k ∷ ks) (b ∷ bs) = ap (λ (x : Bool). eqb k b && x) (front_is ks bs)

-- a line is no shorter than a key that it begins with
pub front_within : (key l : List ℕ) → is_front_of key l ≡ true → length key ≤ length l
unfolding is_front_of
front_within [] l h = omega arith
front_within (k ∷ ks) [] h = absurd (let z : ◌≡◌ {A = ℕ} 0 1 = cc in omega arith)
front_within (k ∷ ks) (b ∷ bs) h = let q : length ks ≤ length bs = front_within ks bs (both_right (eqb k b) (is_front_of ks bs) h) in omega arith

-- a line that begins with a key has each of its bytes
front_at : (key l : List ℕ) (i : ℕ) → is_front_of key l ≡ true → i < length key → get_or l i 0 ≡ get_or key i 0
unfolding is_front_of
front_at [] l i h g = absurd (not-suc-le-zero g)
front_at (k ∷ ks) [] i h g = absurd (cc)
front_at (k ∷ ks) (b ∷ bs) zero h g = sym (eqb-true k b (both_left (eqb k b) (is_front_of ks bs) h))
front_at (k ∷ ks) (b ∷ bs) (suc i) h g = front_at ks bs i (both_right (eqb k b) (is_front_of ks bs) h) (omega arith)

all_alike : (key l : List ℕ) → length key ≤ length l → Alike key l 0 (length key) → is_front_of key l ≡ true
unfolding is_front_of
all_alike [] l h a = refl
all_alike (k ∷ ks) [] h a = absurd (not-suc-le-zero h)
all_alike (k ∷ ks) (b ∷ bs) h a =
    let first : b ≡ k = a 0 (omega arith) (omega arith) in
    rw (first, eq-eqb k k refl) (all_alike ks bs (omega arith) (λ i f g. a (suc i) (omega arith) (omega arith)))

module _ (key l : List ℕ) where
  not_front : (is_front_of key l ≡ true → ⊥) → false ≡ is_front_of key l
  not_front n = go (is_front_of key l) n
    where
      go : (t : Bool) → (t ≡ true → ⊥) → false ≡ t
      go true n = absurd (n refl)
      go false n = refl

  pub front_short : length l < length key → false ≡ is_front_of key l
  front_short h = not_front (λ e. omega (arith, front_within key l e))

  pub front_differs : (i : ℕ) → i < length key → (get_or l i 0 ≡ get_or key i 0 → ⊥) → false ≡ is_front_of key l
  front_differs i h n = not_front (λ e. n (front_at key l i e h))

  pub front_told : (r : Bool) → r ≡ starts_with eqb l key → r ≡ is_front_of key l
  front_told r e = e ∙ front_is key l

  -- ---- the bytes that are alike so far

  pub front_alike : (n : ℕ) → length key ≤ n → n ≤ length l → Alike key l 0 n → true ≡ is_front_of key l
  front_alike n h g a = sym (all_alike key l (omega arith) (λ j e f. a j e (omega arith)))

  pub alike_more : (i k : ℕ) (t r : Bool) → MatchBool t (Alike key l i (i + k)) (is_front_of key l ≡ false) → i + k < length key
      → r ≡ eqb (get_or key (i + k) 0) (get_or l (i + k) 0) → MatchBool (t && r) (Alike key l i (i + (k + 1))) (is_front_of key l ≡ false)
  alike_more i k false r inv h e = inv
  alike_more i k true false inv h e = sym (front_differs (i + k) h (λ q. eqb-false _ _ (sym e) (sym q)))
  alike_more i k true true inv h e = λ j a b. dite (dec_lt j (i + k)) (λ below. inv j a below)
      (λ n. let q : j ≡ i + k = omega arith in rw q (sym (eqb-true _ _ (sym e))))

  pub front_unlike : (from to : ℕ) (t : Bool) → MatchBool t (Alike key l from to) (is_front_of key l ≡ false) → not t ≡ true → false ≡ is_front_of key l
  front_unlike from to true e h = cc
  front_unlike from to false e h = sym e

  pub alike_on : (i from to : ℕ) → Alike key l 0 i → from ≤ i → Alike key l from to → Alike key l 0 to
  alike_on i from to a h b = λ j f g. dite (dec_lt j i) (λ below. a j f below) (λ n. b j (omega arith) g)

-- ---- the bytes up to a column

pub column_past : (l : List ℕ) (k : ℕ) → length l < k → false ≡ eqb (column l) k
column_past l k h = sym (ne_eqb (column l) k (λ z. omega (arith, column_within l)))

pub column_told : (l : List ℕ) (k : ℕ) → k ≤ length l → (list_all (λ b. eqb b 32) (take k l) && not (starts_with eqb (drop k l) (bytes " "))) ≡ eqb (column l) k
unfolding column
column_told [] zero h = refl
column_told [] (suc k) h = absurd (not-suc-le-zero h)
column_told (b ∷ bs) zero h = go (eqb b 32) refl
  where
    go : (t : Bool) → eqb b 32 ≡ t → not (starts_with eqb (b ∷ bs) (bytes " ")) ≡ eqb (cond t (column bs + 1) 0) 0
    go true e = let q : b ≡ 32 = eqb-true b 32 e in rw (q, ne_eqb (column bs + 1) 0 (λ z. omega arith)) refl
    go false e = rw (ne_eqb 32 b (λ z. eqb-false b 32 e (sym z))) refl
column_told (b ∷ bs) (suc k) h = go (eqb b 32) (column_told bs k (omega arith))
  where
    told : ℕ → Bool
    told n = list_all (λ b. eqb b 32) (take n bs) && not (starts_with eqb (drop n bs) (bytes " "))

    go : (t : Bool) → told k ≡ eqb (column bs) k
        → (t && list_all (λ b. eqb b 32) (take k bs) && not (starts_with eqb (drop k bs) (bytes " "))) ≡ eqb (cond t (column bs + 1) 0) (suc k)
    go true e = rw (add-one, eqb-suc-suc (column bs) k) e
    go false e = sym (ne_eqb 0 (suc k) (λ z. omega arith))

-- what the code asks of the two parts of the line
pub column_is : (l : List ℕ) (k : ℕ) (t r : Bool) → k ≤ length l → t ≡ list_all (λ b. eqb b space) (take k l) → r ≡ starts_with eqb (take (length l - k) (drop k l)) (bytes " ")
    → (t && not r) ≡ eqb (column l) k
column_is l k t r h e f =
    let rest : take (length l - k) (drop k l) ≡ drop k l = take_all (length l - k) (drop k l) (omega (arith, length-drop k l)) in
    rw (e, f, rest) (column_told l k h)
