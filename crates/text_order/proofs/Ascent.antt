-- Names at places that ascend are not the same: the order is transitive, and a name is not below itself.
use mathlib.Core.Path.{◌≡◌, refl, sym, ap, ◌∙◌}
use mathlib.Core.Bool.{Bool, true, false, cond}
use mathlib.Core.Logic.{⊎_elim}
use mathlib.Core.List.{List, [], ◌∷◌}
use Prim.Native.Nat.{ℕ, zero, suc, ◌+◌, ◌<◌, ◌≤◌}
use native.Mathlib.Nat.{add-zero, not-suc-le-zero, le_of_suc-le-suc, eq-or-lt_of_le}
use native.Mathlib.Numerals.{add-one}
use native.Mathlib.Omega.{arith}
use lib.Dec.{eqb}
use lib.ListN.{get_or, take, drop}
use lib.Seq.{drop-drop, get_or-drop}
use borrow.Author.Tests.{eqb-true, ne_eqb}
use Rattle.paper.specs.Text.{comma}
use Rattle.laws.specs.Pieces.{before}
use Rattle.laws.proofs.Tests.{le_or_lt}
use Rattle.text_order.specs.Order.{Under, here, later, Ascends, OneOf}

-- the name that begins at a place
abbrev pub name_at : List ℕ → ℕ → List ℕ
name_at s at = take (before comma (drop at s)) (drop at s)

first_of : (xs : List ℕ) → get_or (take (before comma xs) xs) 0 comma ≡ get_or xs 0 comma
unfolding before
first_of [] = refl
first_of (b ∷ bs) = go (eqb b comma) refl
  where
    go : (t : Bool) → eqb b comma ≡ t → get_or (take (cond t 0 (suc (before comma bs))) (b ∷ bs)) 0 comma ≡ b
    go true e = sym (eqb-true b comma e)
    go false e = refl

rest_of : (xs : List ℕ) → (get_or xs 0 comma ≡ comma → ⊥) → take (before comma xs) xs ≡ get_or xs 0 comma ∷ take (before comma (drop 1 xs)) (drop 1 xs)
unfolding before
rest_of [] n = absurd (n refl)
rest_of (b ∷ bs) n = rw (ne_eqb b comma n)

module _ (s : List ℕ) where
  byte_there : (a : ℕ) → get_or (drop a s) 0 comma ≡ get_or s a comma
  byte_there a = get_or-drop a s 0 comma ∙ ap (λ (k : ℕ). get_or s k comma) (add-zero a)

  byte_first : (a : ℕ) → get_or (name_at s a) 0 comma ≡ get_or s a comma
  byte_first a = first_of (drop a s) ∙ byte_there a

  name_rest : (a : ℕ) → (get_or s a comma ≡ comma → ⊥) → name_at s a ≡ get_or s a comma ∷ name_at s (a + 1)
  name_rest a n = rw (← drop-drop 1 a s, ← byte_there a) (rest_of (drop a s) (λ h. n (sym (byte_there a) ∙ h)))

  transitive : {a b d : ℕ} → Under s a b → Under s b d → Under s a d
  transitive {a} {b} {d} (here p) (here q) = here {a = a} {b = d} (omega arith)
  transitive {a} {b} {d} (here p) (later e n v) = here {a = a} {b = d} (omega arith)
  transitive {a} {b} {d} (later e n u) (here q) = here {a = a} {b = d} (omega arith)
  transitive (later e n u) (later f m v) = later (e ∙ f) n (transitive u v)

  apart : {a b : ℕ} → Under s a b → name_at s a ≡ name_at s b → ⊥
  apart {a} {b} (here p) e =
      let q : get_or s a comma ≡ get_or s b comma = sym (byte_first a) ∙ ap (λ (x : List ℕ). get_or x 0 comma) e ∙ byte_first b in
      omega arith
  apart {a} {b} (later e n u) f =
      apart u (ap (λ (x : List ℕ). drop 1 x) (sym (name_rest a n) ∙ f ∙ name_rest b (λ h. n (e ∙ h))))

  module _ (places : List ℕ) (m : ℕ) (ascends : Ascends s places m) where
    under_later_ones : (j k : ℕ) → j < k → k < m → Under s (get_or places j 0) (get_or places k 0)
    under_later_ones j zero l h = absurd (not-suc-le-zero l)
    under_later_ones j (suc k) l h =
        let step : Under s (get_or places k 0) (get_or places (suc k) 0) = rw add-one at (ascends k (omega arith)) in
        ⊎_elim
        (λ (e : j ≡ k). rw e step)
        (λ (q : j < k). transitive (under_later_ones j k q (omega arith)) step)
        (eq-or-lt_of_le (le_of_suc-le-suc l))

    pub names_apart : (a b : ℕ) → OneOf places m a → OneOf places m b → a < b → name_at s a ≡ name_at s b → ⊥
    names_apart a b p q l e =
        ⊎_elim
        (λ (h : p.rank ≤ q.rank). ⊎_elim
        (λ (f : p.rank ≡ q.rank). let g : a ≡ b = sym p.stands ∙ ap (λ (r : ℕ). get_or places r 0) f ∙ q.stands in omega arith)
        (λ (f : p.rank < q.rank). apart (under_later_ones p.rank q.rank f q.below) (rw (p.stands, q.stands) e))
        (eq-or-lt_of_le h))
        (λ (h : q.rank < p.rank). apart (under_later_ones q.rank p.rank h p.below) (rw (p.stands, q.stands) (sym e)))
        (le_or_lt p.rank q.rank)
