-- Functions and then `all`, beside `all` and then other functions: the least stack is all of them, so that the bound is reached.
use Prim.Native.Nat.{ℕ}
use mathlib.Core.Logic.{⊎_elim}
use mathlib.Core.Path.{◌≡◌, refl, sym, subst, ◌∙◌}
use mathlib.Core.Bool.{Bool, true, false, ◌||◌, false≢true}
use mathlib.Core.List.{List, [], ◌∷◌, ◌++◌, map}
use lib.Dec.{eqb}
use borrow.Author.Tests.{eqb-true, eqb-false}
use Rattle.paper.specs.Policy.{Element, all, fn}
use Rattle.paper.specs.Match.{first_meets, matches}
use Rattle.paper.specs.Overlap.{NotAfter}
use Rattle.laws.proofs.Tests.{both_of, neither_left, neither_right}
use Rattle.laws.proofs.Elements.{empty_refuses}
use Rattle.overlap_meeting.proofs.Best.{all_split, all_none}
use Rattle.overlap_meeting.proofs.Order.{after_chain, after_front, after_longer, after_same}

-- a number among others
abbrev pub among : ℕ → List ℕ → Bool
among g [] = false
among g (f ∷ fs) = eqb g f || among g fs

module _ (F : List ℕ) where
  fn_split : (a x : ℕ) (P : List Element) (w : List ℕ) → matches F (fn a ∷ P) (x ∷ w) ≡ true → (a ≡ x) × (matches F P w ≡ true)
  unfolding matches first_meets
  fn_split a x P w h = let k = both_of (eqb a x) (matches F P w) h in (eqb-true a x k.0, k.1)

  functions_fix : (fs w : List ℕ) → matches F (map fn fs) w ≡ true → fs ≡ w
  unfolding matches first_meets
  functions_fix [] [] h = refl
  functions_fix [] (x ∷ w) h = absurd (false≢true (rw (empty_refuses F x w) at h))
  functions_fix (f ∷ fs) [] h = absurd (false≢true h)
  functions_fix (f ∷ fs) (x ∷ w) h =
      let k = fn_split f x (map fn fs) w h in
      let e = k.0 in
      let rest = functions_fix fs w k.1 in
      cc

  fixed_not_after : (gs w : List ℕ) → matches F (map fn gs) w ≡ true → NotAfter gs w
  fixed_not_after gs w h = subst (λ (w : List ℕ). NotAfter gs w) (functions_fix gs w h) (after_same gs)

  behind_all : (gs w : List ℕ) → matches F (all ∷ map fn gs) w ≡ true → NotAfter gs w
  behind_all gs [] h = fixed_not_after gs [] (sym (all_none F (map fn gs)) ∙ h)
  behind_all gs (x ∷ w) h =
      ⊎_elim (λ m. fixed_not_after gs (x ∷ w) m) (λ m. after_chain gs w (x ∷ w) (behind_all gs w m) (after_longer x w)) (all_split F x (map fn gs) w h)

  pub needed : (fs : List ℕ) (g : ℕ) (gs w : List ℕ) → among g fs ≡ false → matches F (map fn fs ++ (all ∷ [])) w ≡ true → matches F (all ∷ map fn (g ∷ gs)) w ≡ true →
      NotAfter (fs ++ (g ∷ gs)) w
  unfolding matches first_meets
  needed [] g gs w apart h k = behind_all (g ∷ gs) w k
  needed (f ∷ fs) g gs [] apart h k = absurd (false≢true h)
  needed (f ∷ fs) g gs (x ∷ w) apart h k =
      let one = fn_split f x (map fn fs ++ (all ∷ [])) w h in
      ⊎_elim
      (λ m. absurd (eqb-false g f (neither_left (eqb g f) (among g fs) apart) ((fn_split g x (map fn gs) w m).0 ∙ sym one.0)))
      (λ m.
      subst (λ (z : ℕ). NotAfter (f ∷ fs ++ (g ∷ gs)) (z ∷ w)) one.0
      (after_front f (fs ++ (g ∷ gs)) w (needed fs g gs w (neither_right (eqb g f) (among g fs) apart) one.1 m)))
      (all_split F x (map fn (g ∷ gs)) w k)
