-- The order on stacks, and the best stack by it: sound, complete, least, short.
use Prim.Native.Nat.{ℕ, suc, ◌<◌, ◌≤◌}
use native.Mathlib.Omega.{arith}
use native.Mathlib.Nat.{eq-or-lt_of_le}
use mathlib.Core.Logic.{◌⊎◌, inl, inr, ⊎_elim}
use mathlib.Core.Path.{◌≡◌, refl, sym, ap, subst, ◌∙◌}
use mathlib.Core.Bool.{Bool, true, false, ◌&&◌, cond, false≢true}
use mathlib.Core.List.{List, [], ◌∷◌}
use lib.ListN.{length}
use lib.Dec.{eqb, ltb}
use borrow.Author.Tests.{eqb-true, eqb-false, ltb-true, ltb-false}
use Rattle.paper.specs.Policy.{Element, all}
use Rattle.paper.specs.Match.{lies_in, matches}
use Rattle.paper.specs.Overlap.{NotAbove, NotAfter}
use Rattle.laws.proofs.Tests.{both_of, either_of, neither_left, neither_right}
use Rattle.overlap_cells.specs.Best.{most_needed, top_passes, Meet, lower_or_same, comes_first, alone, lowest_in, best_stack}
use Rattle.overlap_meeting.proofs.Common.{lowest_lies, lowest_below, lowest_listed, one_domain_lem}
use Rattle.overlap_meeting.proofs.Best.{Some, Good, AtMost, sound, short, least, all_keep, all_none}

lower_true : (u v : List ℕ) → lower_or_same u v ≡ true → NotAbove u v
unfolding lower_or_same NotAbove
lower_true [] v h = tt
lower_true (x ∷ u) [] h = false≢true h
lower_true (x ∷ u) (y ∷ v) h =
    ⊎_elim (λ l. inl (ltb-true x y l)) (λ l. let k = both_of (eqb x y) (lower_or_same u v) l in inr (eqb-true x y k.0, lower_true u v k.1))
    (either_of (ltb x y) (eqb x y && lower_or_same u v) h)

lower_false : (u v : List ℕ) → lower_or_same u v ≡ false → NotAbove v u
unfolding lower_or_same NotAbove
lower_false [] v h = absurd (false≢true (sym h))
lower_false (x ∷ u) [] h = tt
lower_false (x ∷ u) (y ∷ v) h =
    go (lower_false u v) (eqb x y) refl (neither_right (ltb x y) (eqb x y && lower_or_same u v) h) (ltb-false x y (neither_left (ltb x y) (eqb x y && lower_or_same u v) h))
  where
    go : (lower_or_same u v ≡ false → NotAbove v u) → (t : Bool) → eqb x y ≡ t → (t && lower_or_same u v) ≡ false → y ≤ x → (y < x) ⊎ ((y ≡ x) × NotAbove v u)
    go ih true e l n = inr (sym (eqb-true x y e), ih l)
    go ih false e l n = inl (let ne = eqb-false x y e in omega arith)

above_chain : (u v w : List ℕ) → NotAbove u v → NotAbove v w → NotAbove u w
unfolding NotAbove
above_chain [] v w h k = tt
above_chain (x ∷ u) [] w h k = absurd h
above_chain (x ∷ u) (y ∷ v) [] h k = absurd k
above_chain (x ∷ u) (y ∷ v) (z ∷ w) h k =
    ⊎_elim (λ l. ⊎_elim (λ m. inl (omega arith)) (λ m. inl (let e = m.0 in omega arith)) k)
    (λ l. ⊎_elim (λ m. inl (let e = l.0 in omega arith)) (λ m. inr (l.0 ∙ m.0, above_chain u v w l.1 m.1)) k) h

above_same : (u : List ℕ) → NotAbove u u
unfolding NotAbove
above_same [] = tt
above_same (x ∷ u) = inr (refl, above_same u)

-- ---- of stacks
pub after_chain : (u v w : List ℕ) → NotAfter u v → NotAfter v w → NotAfter u w
unfolding NotAfter
after_chain u v w h k = above_chain (length u ∷ u) (length v ∷ v) (length w ∷ w) h k

after_true : (u v : List ℕ) → comes_first u v ≡ true → NotAfter u v
unfolding NotAfter comes_first
after_true u v h = lower_true (length u ∷ u) (length v ∷ v) h

after_false : (u v : List ℕ) → comes_first u v ≡ false → NotAfter v u
unfolding NotAfter comes_first
after_false u v h = lower_false (length u ∷ u) (length v ∷ v) h

pub after_front : (a : ℕ) (u w : List ℕ) → NotAfter u w → NotAfter (a ∷ u) (a ∷ w)
unfolding NotAfter NotAbove
after_front a u w h = ⊎_elim (λ l. inl (omega arith)) (λ l. inr (ap suc l.0, inr (refl, l.1))) h

after_alone : (a : ℕ) (w : List ℕ) → NotAfter (a ∷ []) (a ∷ w)
unfolding NotAfter NotAbove
after_alone a [] = inr (refl, inr (refl, tt))
after_alone a (y ∷ w) = inl (omega arith)

after_lower : (x y : ℕ) (w : List ℕ) → x ≤ y → NotAfter (x ∷ w) (y ∷ w)
unfolding NotAfter NotAbove
after_lower x y w h = inr (refl, ⊎_elim (λ e. inr (e, above_same w)) (λ l. inl l) (eq-or-lt_of_le h))

pub after_longer : (x : ℕ) (w : List ℕ) → NotAfter w (x ∷ w)
unfolding NotAfter NotAbove
after_longer x w = inl (omega arith)

alone_short : (F : List ℕ) (f : ℕ) → length (alone F f) ≤ 1
unfolding alone
alone_short F f = go (ltb f (length F))
  where
    go : (t : Bool) → length (cond t (f ∷ []) []) ≤ 1
    go true = omega arith
    go false = omega arith

module _ (F : List ℕ) (d : ℕ) where
  -- the lowest function of the domain, alone
  abbrev low : List ℕ
  low = alone F (lowest_in F d)

  low_least : (x : ℕ) → lies_in F d x ≡ true → Some low × NotAfter low (x ∷ [])
  unfolding alone
  low_least x h = rw (lowest_listed F d x h) (tt, after_lower (lowest_in F d) x [] (lowest_below F d x h))

  low_good : Some low → (P Q : List Element) → matches F P [] ≡ true → matches F Q [] ≡ true → Meet F (lies_in F d) (all ∷ P) (all ∷ Q) low
  unfolding alone top_passes
  low_good s P Q m n = go (ltb (lowest_in F d) (length F)) refl s
    where
      go : (t : Bool) → ltb (lowest_in F d) (length F) ≡ t → Some (cond t (lowest_in F d ∷ []) []) → Meet F (lies_in F d) (all ∷ P) (all ∷ Q) (cond t (lowest_in F d ∷ []) [])
      go true e s = record {
        one = all_keep F (lowest_in F d) P [] (all_none F P ∙ m);
        other = all_keep F (lowest_in F d) Q [] (all_none F Q ∙ n);
        top = lowest_lies F d e;
      }
      go false e s = absurd s

  -- functions of one domain lie in domain d together
  lie_alike : (e x y : ℕ) → lies_in F e x ≡ true → lies_in F e y ≡ true → lies_in F d y ≡ true → lies_in F d x ≡ true
  lie_alike e x y h k l = subst (λ (z : ℕ). lies_in F z x ≡ true) (one_domain_lem F e d y k l) h

-- ---- the best stack of two patterns
module _ (F : List ℕ) (d : ℕ) (P Q : List Element) where
  -- it needs no more frames than the lengths of the patterns ask for
  pub best_short : length (best_stack F d P Q) ≤ most_needed (length P) (length Q)
  unfolding best_stack
  best_short = short F comes_first (lies_in F d) (low F d) (alone_short F (lowest_in F d)) P Q (most_needed (length P) (length Q)) (omega arith) (omega arith) (omega arith)

  -- both patterns meet in what is found
  pub best_sound : Some (best_stack F d P Q) → Meet F (lies_in F d) P Q (best_stack F d P Q)
  unfolding best_stack Good
  best_sound s = sound F comes_first (lies_in F d) (low F d) (low_good F d) P Q s

  -- where they meet, a stack is found that comes no later
  pub best_least : (w : List ℕ) → Meet F (lies_in F d) P Q w → Some (best_stack F d P Q) × NotAfter (best_stack F d P Q) w
  unfolding best_stack AtMost
  best_least w c =
      least F comes_first (lies_in F d) (low F d) NotAfter after_chain after_true after_false after_front after_alone after_longer after_lower (lie_alike F d)
      (low_least F d) P Q w c

-- ---- a stack itself, and the length of one that does not come after another
pub after_same : (u : List ℕ) → NotAfter u u
unfolding NotAfter
after_same u = above_same (length u ∷ u)

pub after_length : (u v : List ℕ) → NotAfter u v → length u ≤ length v
unfolding NotAfter NotAbove
after_length u v h = ⊎_elim (λ l. omega arith) (λ e. omega (arith, e.0)) h

-- ---- two stacks neither of which comes after the other are one
above_anti : (u v : List ℕ) → NotAbove u v → NotAbove v u → u ≡ v
unfolding NotAbove
above_anti [] [] h k = refl
above_anti [] (y ∷ v) h k = absurd k
above_anti (x ∷ u) [] h k = absurd h
above_anti (x ∷ u) (y ∷ v) (inl h) (inl k) = absurd (omega arith)
above_anti (x ∷ u) (y ∷ v) (inl h) (inr k) = absurd (let e = k.0 in omega arith)
above_anti (x ∷ u) (y ∷ v) (inr h) (inl k) = absurd (let e = h.0 in omega arith)
above_anti (x ∷ u) (y ∷ v) (inr h) (inr k) = let e = h.0 in let t = above_anti u v h.1 k.1 in cc

tail_of : (x y : ℕ) (u v : List ℕ) → x ∷ u ≡ y ∷ v → u ≡ v
tail_of x y u v e = cc

pub after_anti : (u v : List ℕ) → NotAfter u v → NotAfter v u → u ≡ v
unfolding NotAfter
after_anti u v h k = tail_of (length u) (length v) u v (above_anti (length u ∷ u) (length v ∷ v) h k)
