-- The first piece of a text that is cut at a separator, and what is left behind the separator.
use mathlib.Core.Path.{◌≡◌, refl, sym, ap, ◌∙◌}
use mathlib.Core.Bool.{Bool, true, false, cond}
use mathlib.Core.List.{List, [], ◌∷◌}
use Prim.Native.Nat.{ℕ, suc, ◌+◌, ◌-◌, ◌<◌, ◌≤◌}
use native.Mathlib.Nat.{not-suc-le-zero}
use native.Mathlib.Omega.{arith}
use lib.Dec.{eqb}
use lib.ListN.{length, get_or, take, drop, length-drop}
use lib.Seq.{drop-drop, take_all}
use borrow.Author.Tests.{eqb-true}
use Rattle.paper.specs.Common.{cut, on_piece}
use Rattle.laws.specs.Pieces.{before}

pub before_within : (c : ℕ) (xs : List ℕ) → before c xs ≤ length xs
unfolding before
before_within c [] = omega arith
before_within c (b ∷ bs) = go (eqb b c) (before_within c bs)
  where
    go : (t : Bool) → before c bs ≤ length bs → cond t 0 (suc (before c bs)) ≤ suc (length bs)
    go true k = omega arith
    go false k = omega arith

-- the separator stands there
pub separator_at : (c : ℕ) (xs : List ℕ) → before c xs < length xs → get_or xs (before c xs) 0 ≡ c
unfolding before
separator_at c [] h = absurd (not-suc-le-zero h)
separator_at c (b ∷ bs) h = go (eqb b c) refl h (λ k. separator_at c bs k)
  where
    go : (t : Bool) → eqb b c ≡ t → cond t 0 (suc (before c bs)) < suc (length bs) → (before c bs < length bs → get_or bs (before c bs) 0 ≡ c) → get_or (b ∷ bs) (cond t 0 (suc (before c bs))) 0 ≡ c
    go true e k ih = eqb-true b c e
    go false e k ih = ih (omega arith)

-- a list of pieces that is made byte by byte, as `cut` and `lines` are, begins with what stands before the separator
cut_in : (c : ℕ) (xs : List ℕ) → before c xs < length xs → cut c xs ≡ take (before c xs) xs ∷ cut c (drop (suc (before c xs)) xs)
unfolding before cut on_piece
cut_in c [] h = absurd (not-suc-le-zero h)
cut_in c (b ∷ bs) h = go (eqb b c) h (λ k. cut_in c bs k)
  where
    go : (t : Bool) → cond t 0 (suc (before c bs)) < suc (length bs)
        → (before c bs < length bs → cut c bs ≡ take (before c bs) bs ∷ cut c (drop (suc (before c bs)) bs))
        → cond t ([] ∷ cut c bs) (on_piece b (cut c bs)) ≡ take (cond t 0 (suc (before c bs))) (b ∷ bs) ∷ cut c (drop (suc (cond t 0 (suc (before c bs)))) (b ∷ bs))
    go true k ih = refl
    go false k ih = ap (on_piece b) (ih (omega arith))

cut_end : (c : ℕ) (xs : List ℕ) → length xs ≤ before c xs → cut c xs ≡ xs ∷ []
unfolding before cut on_piece
cut_end c [] h = refl
cut_end c (b ∷ bs) h = go (eqb b c) h (λ k. cut_end c bs k)
  where
    go : (t : Bool) → suc (length bs) ≤ cond t 0 (suc (before c bs)) → (length bs ≤ before c bs → cut c bs ≡ bs ∷ []) → cond t ([] ∷ cut c bs) (on_piece b (cut c bs)) ≡ (b ∷ bs) ∷ []
    go true k ih = absurd (omega arith)
    go false k ih = ap (on_piece b) (ih (omega arith))

-- ---- the same at an index: from `at` to the separator at e

module _ (c : ℕ) (t : List ℕ) (at e : ℕ) (f : e ≡ at + before c (drop at t)) where
  pub piece_length : e - at ≡ before c (drop at t)
  piece_length = omega arith

  pub piece_within : at ≤ length t → e ≤ length t
  piece_within w = omega (arith, before_within c (drop at t), length-drop at t)

  pub piece_short : e < length t → before c (drop at t) < length (drop at t)
  piece_short h = omega (arith, length-drop at t)

  pub piece_behind : drop (suc (before c (drop at t))) (drop at t) ≡ drop (e + 1) t
  piece_behind =
      let q : at + (suc (before c (drop at t))) ≡ e + 1 = omega arith in
      drop-drop (suc (before c (drop at t))) at t ∙ ap (λ (k : ℕ). drop k t) q

  pub piece_last : length t ≤ e → take (e - at) (drop at t) ≡ drop at t
  piece_last h = take_all (e - at) (drop at t) (omega (arith, length-drop at t))

  pub cut_more : e < length t → cut c (drop at t) ≡ take (e - at) (drop at t) ∷ cut c (drop (e + 1) t)
  cut_more h = rw piece_length (cut_in c (drop at t) (piece_short h) ∙ ap (λ (ys : List ℕ). take (before c (drop at t)) (drop at t) ∷ cut c ys) piece_behind)

  pub cut_last : at ≤ length t → length t ≤ e → cut c (drop at t) ≡ take (e - at) (drop at t) ∷ []
  cut_last w h = cut_end c (drop at t) (omega (arith, length-drop at t)) ∙ ap (λ (y : List ℕ). y ∷ []) (sym (piece_last h))

-- there is always a piece
pub cut_some : (c : ℕ) (xs : List ℕ) → (y : List ℕ) × (ys : List (List ℕ)) × (cut c xs ≡ y ∷ ys)
unfolding cut on_piece
cut_some c [] = ([], [], refl)
cut_some c (b ∷ bs) = go (eqb b c) (cut c bs)
  where
    go : (t : Bool) (ps : List (List ℕ)) → (y : List ℕ) × (ys : List (List ℕ)) × (cond t ([] ∷ ps) (on_piece b ps) ≡ y ∷ ys)
    go true ps = ([], ps, refl)
    go false [] = (b ∷ [], [], refl)
    go false (q ∷ qs) = (b ∷ q, qs, refl)
