-- A pattern from a place on against the empty stack.
use Prim.Native.Nat.{ℕ, zero, suc, ◌+◌, ◌-◌, ◌<◌, ◌≤◌}
use native.Mathlib.Omega.{arith}
use native.Mathlib.Nat.{add-zero}
use mathlib.Core.Logic.{⊎_elim}
use mathlib.Core.Path.{◌≡◌, refl, sym, ◌∙◌}
use mathlib.Core.Bool.{Bool, true, false, ◌&&◌, false≢true}
use mathlib.Core.List.{List, []}
use lib.Dec.{eqb, leb}
use lib.ListN.{length, get_or}
use borrow.Author.Tests.{eqb-true, eqb-false, le-leb, lt-leb}
use Rattle.paper.specs.Match.{swallowing, first_meets, matches}
use Rattle.laws.proofs.Elements.{at_all, at_single, at_end_lem}
use Rattle.laws.proofs.Tests.{le_or_lt}
use Rattle.std.specs.Prelude.{EachIndex}
use Rattle.overlap_cells.specs.Cells.{pattern_from, OnlyAllFrom, EndsAt}

module _ (F p : List ℕ) (i : ℕ) where
  -- the pattern from place i on matches the empty stack
  abbrev pub ends : Bool
  ends = matches F (pattern_from i p) []

  ends_at_end : length p ≤ i → ends ≡ true
  unfolding matches
  ends_at_end h = rw (at_end_lem p i h)

  ends_past_all : i < length p → get_or p i 0 ≡ 0 → ends ≡ matches F (pattern_from (i + 1) p) []
  unfolding matches swallowing
  ends_past_all h e = rw (at_all p i h e)

  ends_not : i < length p → (get_or p i 0 ≡ 0 → ⊥) → ends ≡ false
  unfolding first_meets
  ends_not h n = at_single p i F [] h n

module _ (F p : List ℕ) where
  ends_next : (i : ℕ) → ends F p i ≡ true → ends F p (i + 1) ≡ true
  ends_next i h = ⊎_elim (λ l. ends_at_end F p (i + 1) (omega arith)) inside (le_or_lt (length p) i)
    where
      inside : i < length p → ends F p (i + 1) ≡ true
      inside l = go (eqb (get_or p i 0) 0) refl
        where
          go : (t : Bool) → eqb (get_or p i 0) 0 ≡ t → ends F p (i + 1) ≡ true
          go true e = sym (ends_past_all F p i l (eqb-true _ _ e)) ∙ h
          go false e = absurd (false≢true (sym (ends_not F p i l (eqb-false _ _ e)) ∙ h))

  ends_later : (i n : ℕ) → ends F p i ≡ true → ends F p (i + n) ≡ true
  ends_later i zero h = rw add-zero h
  ends_later i (suc n) h = let e : i + suc n ≡ i + n + 1 = omega arith in rw e (ends_next (i + n) (ends_later i n h))

module _ (p : List ℕ) (k : ℕ) (zeros : (i : ℕ) → k ≤ i → i < length p → get_or p i 0 ≡ 0) where
  -- from place k on there is only `all`: n places at most are left from place i on
  ended : (F : List ℕ) (n i : ℕ) → length p ≤ i + n → k ≤ i → ends F p i ≡ true
  ended F zero i h l = ends_at_end F p i (omega arith)
  ended F (suc n) i h l =
      ⊎_elim (λ o. ends_at_end F p i o) (λ o. ends_past_all F p i o (zeros i l o) ∙ ended F n (i + 1) (omega arith) (omega arith)) (le_or_lt (length p) i)

  ended_from : (F : List ℕ) (i : ℕ) → k ≤ i → ends F p i ≡ true
  ended_from F i l = ended F (length p) i (omega arith) l

pub all_from_start : (p : List ℕ) → EachIndex p (λ k. get_or p k 0 ≡ 0) → OnlyAllFrom p 0
unfolding OnlyAllFrom
all_from_start p zeros F i = ended_from p 0 (λ k l h. zeros k h) F i (omega arith) ∙ sym (le-leb 0 i (omega arith))

module _ (p : List ℕ) (k : ℕ) (last : EndsAt p k) where
  not_ended : (F : List ℕ) (i : ℕ) → i < k + 1 → (t : Bool) → ends F p i ≡ t → t ≡ false
  not_ended F i h true e =
      let f : i + (k - i) ≡ k = omega arith in
      sym (rw f at (ends_later F p i (k - i) e)) ∙ ends_not F p k last.0 last.1
  not_ended F i h false e = refl

  pub all_from_next : OnlyAllFrom p (k + 1)
  unfolding OnlyAllFrom
  all_from_next F i =
      ⊎_elim (λ h. ended_from p (k + 1) (λ j l m. last.2 j (omega arith) m) F i h ∙ sym (le-leb (k + 1) i h))
      (λ h. not_ended F i h (ends F p i) refl ∙ sym (lt-leb (k + 1) i h)) (le_or_lt (k + 1) i)

-- ---- two patterns
pub both_end : (F P Q : List ℕ) (x y i j : ℕ) (t : Bool) → OnlyAllFrom P x → OnlyAllFrom Q y → t ≡ (leb x i && leb y j) →
    t ≡ (matches F (pattern_from i P) [] && matches F (pattern_from j Q) [])
unfolding OnlyAllFrom
both_end F P Q x y i j t f g h = rw (f F i, g F j) h
