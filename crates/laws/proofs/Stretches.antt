-- A stretch of words that stands in a list at a place: how it is read, cut, put together and filled up with zeros.
use mathlib.Core.Path.{◌≡◌, refl, sym, ap, ◌∙◌}
use mathlib.Core.List.{List, [], ◌∷◌, ◌++◌}
use mathlib.Core.Bool.{true}
use mathlib.Core.Logic.{dite}
use Prim.Native.Nat.{ℕ, zero, suc, ◌+◌, ◌-◌, ◌<◌, ◌≤◌}
use native.Mathlib.Nat.{zero-add, add-zero, not-suc-le-zero}
use native.Mathlib.Decide.{dec_lt}
use native.Mathlib.Omega.{arith}
use lib.ListN.{length, get_or, take, drop, replicate, length-append, length-take, length-drop, length-replicate, get_or-replicate, get_or-append}
use lib.Seq.{get_or-append-add, get_or-take, get_or-drop, ext_get_or, length-take-le}
use borrow.Author.Tests.{eqb-true, eq-eqb}
use Rattle.paper.specs.Table.{padded, zeros}
use Rattle.laws.proofs.Tests.{up_to_at, up_to_all}

-- from `at` on, ws reads as xs does
pub record Stands (ws : List ℕ) (at : ℕ) (xs : List ℕ) : Type 0 where
  pub reads : (i : ℕ) → i < length xs → get_or ws (at + i) 0 ≡ get_or xs i 0

pub stands_front : (xs ys : List ℕ) → Stands (xs ++ ys) 0 xs
stands_front xs ys = record { reads = λ i h. rw zero-add (get_or-append xs ys 0 i h) }

-- ---- over one list of words

module _ (ws : List ℕ) where
  -- a word at a place that is said in another way
  pub word_at : (a b x : ℕ) → a ≡ b → get_or ws a 0 ≡ x → get_or ws b 0 ≡ x
  word_at a b x e p = ap (λ (k : ℕ). get_or ws k 0) (sym e) ∙ p

  -- word i of a stretch
  pub stands_word : (at i to : ℕ) (xs : List ℕ) → Stands ws at xs → i < length xs → at + i ≡ to → get_or ws to 0 ≡ get_or xs i 0
  stands_word at i to xs s h e = word_at (at + i) to (get_or xs i 0) e (s.reads i h)

  pub stands_left : (at : ℕ) (xs ys : List ℕ) → Stands ws at (xs ++ ys) → Stands ws at xs
  stands_left at xs ys s = record { reads = λ i h. s.reads i (rw length-append (omega arith)) ∙ get_or-append xs ys 0 i h }

  pub stands_right : (at to : ℕ) (xs ys : List ℕ) → at + length xs ≡ to → Stands ws at (xs ++ ys) → Stands ws to ys
  stands_right at to xs ys e s = record {
    reads = λ i h. word_at (at + (length xs + i)) (to + i) _ (omega arith) (s.reads (length xs + i) (rw length-append (omega arith)) ∙ get_or-append-add xs ys i 0);
  }

  pub stands_both : (at to : ℕ) (xs ys : List ℕ) → at + length xs ≡ to → Stands ws at xs → Stands ws to ys → Stands ws at (xs ++ ys)
  stands_both at to xs ys e p q = record {
    reads = λ i h. dite (dec_lt i (length xs))
        (λ (l : i < length xs). p.reads i l ∙ sym (get_or-append xs ys 0 i l))
        (λ (n : ¬ (i < length xs)). word_at (to + (i - length xs)) (at + i) _ (omega arith) (q.reads (i - length xs) (omega (arith, length-append xs ys)) ∙ behind i (omega arith)));
  }
    where
      behind : (i : ℕ) → length xs ≤ i → get_or ys (i - length xs) 0 ≡ get_or (xs ++ ys) i 0
      behind i h = let e : length xs + (i - length xs) ≡ i = omega arith in sym (get_or-append-add xs ys (i - length xs) 0) ∙ ap (λ (k : ℕ). get_or (xs ++ ys) k 0) e

  pub stands_none : (at : ℕ) → Stands ws at []
  stands_none at = record { reads = λ i h. absurd (not-suc-le-zero h) }

  -- one word, and a stretch behind it
  pub stands_more : (at to x : ℕ) (xs : List ℕ) → at + 1 ≡ to → get_or ws at 0 ≡ x → Stands ws to xs → Stands ws at (x ∷ xs)
  stands_more at to x xs e p s = record { reads = go }
    where
      go : (i : ℕ) → i < suc (length xs) → get_or ws (at + i) 0 ≡ get_or (x ∷ xs) i 0
      go zero h = rw add-zero p
      go (suc i) h = word_at (to + i) (at + suc i) (get_or xs i 0) (omega arith) (s.reads i (omega arith))

  -- what is taken at a place stands there, and a stretch that stands there is what is taken
  pub stands_taken : (at n : ℕ) → Stands ws at (take n (drop at ws))
  stands_taken at n = record {
    reads = λ i h.
        let l : i < n = omega (arith, length-take n (drop at ws)) in
        sym (get_or-take n (drop at ws) i 0 l ∙ get_or-drop at ws i 0);
  }

  pub length_taken : (at n : ℕ) → at + n ≤ length ws → length (take n (drop at ws)) ≡ n
  length_taken at n h = length-take-le n (drop at ws) (omega (arith, length-drop at ws))

  pub taken_stretch : (at n : ℕ) (xs : List ℕ) → length xs ≡ n → at + n ≤ length ws → Stands ws at xs → take n (drop at ws) ≡ xs
  taken_stretch at n xs e h s =
      ext_get_or 0 (take n (drop at ws)) xs (length_taken at n h ∙ sym e)
      (λ i l.
      let m : i < n = omega (arith, length_taken at n h) in
      get_or-take n (drop at ws) i 0 m ∙ get_or-drop at ws i 0 ∙ s.reads i (omega arith))

  -- two stretches at two places hold the same words
  pub taken_same : (a b n i : ℕ) → take n (drop a ws) ≡ take n (drop b ws) → i < n → get_or ws (a + i) 0 ≡ get_or ws (b + i) 0
  taken_same a b n i e h =
      sym (get_or-take n (drop a ws) i 0 h ∙ get_or-drop a ws i 0)
      ∙ ap (λ (l : List ℕ). get_or l i 0) e
      ∙ (get_or-take n (drop b ws) i 0 h ∙ get_or-drop b ws i 0)

  -- ---- a stretch, and zeros up to n words

  pub padded_front : (at n : ℕ) (xs : List ℕ) → Stands ws at (padded n xs) → Stands ws at xs
  unfolding padded
  padded_front at n xs s = stands_left at xs (replicate (n - length xs) 0) s

  pub padded_zero : (at n : ℕ) (xs : List ℕ) → Stands ws at (padded n xs) → (i : ℕ) → length xs ≤ i → i < n → get_or ws (at + i) 0 ≡ 0
  unfolding padded
  padded_zero at n xs s i p q =
      stands_word (at + length xs) (i - length xs) (at + i) (replicate (n - length xs) 0) (stands_right at (at + length xs) xs _ refl s) (rw length-replicate (omega arith)) (omega arith)
      ∙ get_or-replicate (n - length xs) (i - length xs) 0 0 (omega arith)

  pub padded_stands : (at n : ℕ) (xs : List ℕ) → Stands ws at xs → ((i : ℕ) → length xs ≤ i → i < n → get_or ws (at + i) 0 ≡ 0) → Stands ws at (padded n xs)
  unfolding padded
  padded_stands at n xs s h = stands_both at (at + length xs) xs (replicate (n - length xs) 0) refl s (record {
    reads = λ i l.
        let m : i < n - length xs = rw length-replicate at l in
        word_at (at + (length xs + i)) (at + length xs + i) _ (omega arith) (h (length xs + i) (omega arith) (omega arith)) ∙ sym (get_or-replicate (n - length xs) i 0 0 m);
  })

  pub zeros_at : (at n : ℕ) → zeros ws at n ≡ true → (i : ℕ) → i < n → get_or ws (at + i) 0 ≡ 0
  unfolding zeros
  zeros_at at n h i l = eqb-true _ _ (up_to_at _ n h i l)

  pub zeros_all : (at n : ℕ) → ((i : ℕ) → i < n → get_or ws (at + i) 0 ≡ 0) → zeros ws at n ≡ true
  unfolding zeros
  zeros_all at n h = up_to_all _ n (λ i l. eq-eqb _ _ (h i l))

pub length_padded : (n : ℕ) (xs : List ℕ) → length xs ≤ n → length (padded n xs) ≡ n
unfolding padded
length_padded n xs h = rw (length-append, length-replicate) (omega arith)
