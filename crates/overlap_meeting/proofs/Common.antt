-- The lowest frame that two elements both meet: both do meet it, and it can stand for any other that they both meet.
use Prim.Native.Nat.{ℕ, zero, suc, ◌+◌, ◌<◌, ◌≤◌}
use native.Mathlib.Omega.{arith}
use native.Mathlib.Numerals.{add-one}
use native.Mathlib.Nat.{le_refl}
use mathlib.Core.Logic.{⊎_elim}
use mathlib.Core.Path.{◌≡◌, refl, sym, subst, ◌∙◌}
use mathlib.Core.Bool.{Bool, true, false, ◌&&◌, cond, false≢true}
use mathlib.Core.List.{List, [], ◌∷◌}
use lib.ListN.{length, get_or}
use lib.Dec.{eqb, ltb}
use borrow.Author.Tests.{eqb-true, eqb-false, eq-eqb, ltb-true, lt-ltb}
use Rattle.paper.specs.Policy.{Element, all, fn, any_in}
use Rattle.paper.specs.Match.{lies_in, is_all}
use Rattle.laws.specs.Frames.{meets_frame}
use Rattle.laws.proofs.Tests.{le_or_lt, both_true, both_of}
use Rattle.overlap_cells.specs.Best.{lowest_in, alone, lowest_frame, common_frame}

-- ---- the lowest function of a domain
-- x is the lowest function in domain d, or there is none and x is past the end
pub record Lowest (F : List ℕ) (d x : ℕ) : Type 0 where
  pub listed : x < length F → get_or F x 0 ≡ d
  pub least : (y : ℕ) → y < x → get_or F y 0 ≡ d → ⊥

below_none : {x : ℕ} → x < 0 → ⊥
below_none {x} l = omega arith

lowest_in_lem : (F : List ℕ) (d : ℕ) → Lowest F d (lowest_in F d)
unfolding lowest_in
lowest_in_lem [] d = record { listed = λ l. absurd (below_none l); least = λ y l e. absurd (below_none l) }
lowest_in_lem (x ∷ F) d = go (lowest_in_lem F d) (eqb x d) refl
  where
    go : Lowest F d (lowest_in F d) → (t : Bool) → eqb x d ≡ t → Lowest (x ∷ F) d (cond t 0 (lowest_in F d + 1))
    go rest true e = record { listed = λ _. eqb-true x d e; least = λ y l f. absurd (below_none l) }
    go rest false e = rw add-one (record { listed = λ l. rest.listed (omega arith); least = before rest e })
      where
        before : Lowest F d (lowest_in F d) → eqb x d ≡ false → (y : ℕ) → y < suc (lowest_in F d) → get_or (x ∷ F) y 0 ≡ d → ⊥
        before rest e zero l f = eqb-false x d e f
        before rest e (suc y) l f = rest.least y (omega arith) f

module _ (F : List ℕ) (d : ℕ) where
  lies_split : (x : ℕ) → lies_in F d x ≡ true → (x < length F) × (get_or F x 0 ≡ d)
  unfolding lies_in
  lies_split x h = let k = both_of (ltb x (length F)) (eqb (get_or F x 0) d) h in (ltb-true x (length F) k.0, eqb-true (get_or F x 0) d k.1)

  -- it lies there, where it is listed, and it is not above another that lies there
  pub lowest_lies : ltb (lowest_in F d) (length F) ≡ true → lies_in F d (lowest_in F d) ≡ true
  unfolding lies_in
  lowest_lies h =
      both_true (ltb (lowest_in F d) (length F)) (eqb (get_or F (lowest_in F d) 0) d) h (eq-eqb (get_or F (lowest_in F d) 0) d ((lowest_in_lem F d).listed (ltb-true _ _ h)))

  pub lowest_below : (y : ℕ) → lies_in F d y ≡ true → lowest_in F d ≤ y
  lowest_below y h = ⊎_elim (λ l. l) (λ l. absurd ((lowest_in_lem F d).least y l (lies_split y h).1)) (le_or_lt (lowest_in F d) y)

  pub lowest_listed : (y : ℕ) → lies_in F d y ≡ true → ltb (lowest_in F d) (length F) ≡ true
  lowest_listed y h = let l = lowest_below y h in let k = (lies_split y h).0 in lt-ltb (lowest_in F d) (length F) (omega arith)

-- a function lies in one domain only
pub one_domain_lem : (F : List ℕ) (d e y : ℕ) → lies_in F d y ≡ true → lies_in F e y ≡ true → d ≡ e
one_domain_lem F d e y h k = sym (lies_split F d y h).1 ∙ (lies_split F e y k).1

-- ---- what holds of the frame, where there is one; and that there is one, and it holds
abbrev pub IfAny : (ℕ → Type 0) → List ℕ → Type 0
IfAny G [] = Unit {0}
IfAny G (x ∷ u) = G x

abbrev pub OfOne : (ℕ → Type 0) → List ℕ → Type 0
OfOne G [] = ⊥
OfOne G (x ∷ u) = G x

frame_if : (G : ℕ → Type 0) (t : Bool) (f : ℕ) → (t ≡ true → G f) → IfAny G (cond t (f ∷ []) [])
frame_if G true f h = h refl
frame_if G false f h = tt

module _ (F : List ℕ) where
  -- ---- both elements meet the frame
  abbrev pub Met : Element → Element → ℕ → Type 0
  Met a b x = (meets_frame F a x ≡ true) × (meets_frame F b x ≡ true)

  lowest_if : (G : ℕ → Type 0) (d : ℕ) → ((x : ℕ) → lies_in F d x ≡ true → G x) → IfAny G (alone F (lowest_in F d))
  unfolding alone
  lowest_if G d h = frame_if G (ltb (lowest_in F d) (length F)) (lowest_in F d) (λ e. h (lowest_in F d) (lowest_lies F d e))

  pub common_met : (a b : Element) → IfAny (Met a b) (common_frame F a b)
  unfolding common_frame lowest_frame meets_frame
  common_met all all = tt
  common_met all (fn g) = (refl, eq-eqb g g refl)
  common_met all (any_in d) = lowest_if (Met all (any_in d)) d (λ x h. (refl, h))
  common_met (fn f) b = frame_if (Met (fn f) b) (meets_frame F b f) f (λ h. (eq-eqb f f refl, h))
  common_met (any_in d) all = lowest_if (Met (any_in d) all) d (λ x h. (h, refl))
  common_met (any_in d) (fn g) = frame_if (Met (any_in d) (fn g)) (lies_in F d g) g (λ h. (h, eq-eqb g g refl))
  common_met (any_in d) (any_in e) = go (eqb d e) refl
    where
      go : (t : Bool) → eqb d e ≡ t → IfAny (Met (any_in d) (any_in e)) (cond t (alone F (lowest_in F d)) [])
      go true s = lowest_if (Met (any_in d) (any_in e)) d (λ x h. (h, subst (λ (z : ℕ). lies_in F z x ≡ true) (eqb-true d e s) h))
      go false s = tt

  -- ---- it can stand for another frame y that both meet: it is not above y, and it passes a test that y does
  module _ (test : ℕ → Bool) where
    abbrev pub StandsFor : ℕ → ℕ → Type 0
    StandsFor y x = (x ≤ y) × (test y ≡ true → test x ≡ true)

    module _ (alike : (d x y : ℕ) → lies_in F d x ≡ true → lies_in F d y ≡ true → test y ≡ true → test x ≡ true) (y : ℕ) where
      itself : (f : ℕ) → eqb f y ≡ true → StandsFor y f
      itself f h = subst (λ (z : ℕ). StandsFor y z) (sym (eqb-true f y h)) (le_refl y, λ t. t)

      lowest_stands : (d : ℕ) → lies_in F d y ≡ true → OfOne (StandsFor y) (alone F (lowest_in F d))
      unfolding alone
      lowest_stands d h =
          let l = lowest_listed F d y h in
          rw l (lowest_below F d y h, alike d (lowest_in F d) y (lowest_lies F d l) h)

      pub common_stands : (a b : Element) → (is_all a && is_all b) ≡ false → meets_frame F a y ≡ true → meets_frame F b y ≡ true → OfOne (StandsFor y) (common_frame F a b)
      unfolding common_frame lowest_frame meets_frame is_all
      common_stands all all n h k = absurd (false≢true (sym n))
      common_stands all (fn g) n h k = itself g k
      common_stands all (any_in d) n h k = lowest_stands d k
      common_stands (fn f) b n h k =
          let m : meets_frame F b f ≡ true = rw (eqb-true f y h) k in
          rw m (itself f h)
      common_stands (any_in d) all n h k = lowest_stands d h
      common_stands (any_in d) (fn g) n h k =
          let m : lies_in F d g ≡ true = rw (eqb-true g y k) h in
          rw m (itself g k)
      common_stands (any_in d) (any_in e) n h k = rw (eq-eqb d e (one_domain_lem F d e y h k)) (lowest_stands d h)

  -- ---- where there is none, no frame meets both
  pub none_common : (a b : Element) → (is_all a && is_all b) ≡ false → common_frame F a b ≡ [] → (y : ℕ) → Met a b y → ⊥
  none_common a b n e y m = rw e at (common_stands (λ _. true) (λ d x y h k t. t) y a b n m.0 m.1)
