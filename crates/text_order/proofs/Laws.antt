-- What each function's loop keeps, and what its answers say.
use mathlib.Core.Path.{◌≡◌, refl, sym, ◌∙◌}
use mathlib.Core.Bool.{Bool, true, false, false≢true, not, ◌||◌}
use mathlib.Core.Logic.{⊎_elim}
use mathlib.Core.List.{List, [], ◌∷◌}
use Prim.Native.Nat.{ℕ, zero, suc, ◌+◌, ◌-◌, ◌*◌, ◌^◌, ◌<◌, ◌≤◌}
use native.Mathlib.Nat.{not-suc-le-zero}
use native.Mathlib.Omega.{arith}
use mir.Syntax.{w64}
use mir.Val.{Fits}
use lib.Dec.{eqb, ltb}
use lib.ListN.{length, get_or, get_or-eq_default}
use borrow.Author.Tests.{eqb-true, eqb-false, ltb-true, not-false}
use Rattle.paper.specs.Common.{same, any_of, among}
use Rattle.paper.specs.Text.{comma}
use Rattle.paper.specs.Lists.{elements_in}
use Rattle.paper.specs.Rules.{repeats}
use Rattle.laws.proofs.Tests.{same_equal, either_of, neither, neither_left, neither_right, le_or_lt}
use Rattle.laws.proofs.Pieces.{piece_length}
use Rattle.text_lists.specs.Walk.{first_element, element_at, elements_left, SpacedFrom}
use Rattle.std.specs.Prelude.{Option, Some, None}
use Rattle.text_lists.specs.declared.Element.{Element}
use Rattle.text_lists.proofs.Walk.{left_first, left_none, left_found, found_at, found_less}
use Rattle.text_order.specs.Order.{Under, here, later, Ascends, OneOf}
use Rattle.text_order.proofs.Names.{repeats_first, repeats_none}
use Rattle.text_order.proofs.Ascent.{name_at, names_apart}

-- ---- bytes and words behind the end

get_d_within : (xs : List ℕ) (i d e : ℕ) → i < length xs → get_or xs i d ≡ get_or xs i e
get_d_within [] i d e h = absurd (not-suc-le-zero h)
get_d_within (x ∷ xs) zero d e h = refl
get_d_within (x ∷ xs) (suc i) d e h = get_d_within xs i d e (omega arith)

module _ (xs : List ℕ) (i : ℕ) where
  pub read_behind : (d : ℕ) → length xs ≤ i → d ≡ get_or xs i d
  read_behind d h = sym (get_or-eq_default xs d h)

  pub read_within : (d : ℕ) → i < length xs → get_or xs i 0 ≡ get_or xs i d
  read_within d h = get_d_within xs i 0 d h

-- ---- one name is below another

inside : (s : List ℕ) (i x : ℕ) → x ≡ get_or s i comma → (x ≡ comma → ⊥) → i < length s
inside s i x e n = ⊎_elim (λ (h : length s ≤ i). absurd (n (e ∙ get_or-eq_default s comma h))) (λ (h : i < length s). h) (le_or_lt (length s) i)

module _ (s : List ℕ) (i j x y : ℕ) (e : x ≡ get_or s i comma) (f : y ≡ get_or s j comma) where
  pub under_told : (a b : ℕ) → (Under s i j → Under s a b) → ltb x y ≡ true → Under s a b
  under_told a b inv t = inv (here (rw (e, f) at (ltb-true x y t)))

  module _ (go_on : (not (eqb x y) || eqb x comma) ≡ false) where
    alike : x ≡ y
    alike = eqb-true x y (not-false (eqb x y) (neither_left (not (eqb x y)) (eqb x comma) go_on))

    no_comma : x ≡ comma → ⊥
    no_comma = eqb-false x comma (neither_right (not (eqb x y)) (eqb x comma) go_on)

    pub place_less : length s - (i + 1) < length s - i
    place_less = omega (arith, inside s i x e no_comma)

    pub place_fits : length s * 1 < 2 ^ 63 → Fits w64 (i + 1)
    place_fits l = omega (arith, inside s i x e no_comma)

    pub other_place_fits : length s * 1 < 2 ^ 63 → Fits w64 (j + 1)
    other_place_fits l = omega (arith, inside s j y f (λ h. no_comma (alike ∙ h)))

    pub under_again : (a b : ℕ) → (Under s i j → Under s a b) → Under s (i + 1) (j + 1) → Under s a b
    under_again a b inv u = inv (later (sym e ∙ alike ∙ f) (λ h. no_comma (e ∙ h)) u)

-- ---- names that ascend

module _ (s places : List ℕ) where
  pub ascends_one : Ascends s places (0 + 1)
  ascends_one j h = absurd (let q : j + 1 < 1 = h in omega arith)

  pub ascends_more : (last x y : ℕ) (t : Bool) → Ascends s places (last + 1) → x ≡ get_or places last 0 → y ≡ get_or places (last + 1) 0
      → (t ≡ true → Under s x y) → not t ≡ false → Ascends s places (last + 1 + 1)
  ascends_more last x y t inv e f told h j l =
      ⊎_elim
      (λ (q : last ≤ j). let g : j ≡ last = omega arith in rw (g, ← e, ← f) (told (not-false t h)))
      (λ (q : j < last). inv j (omega arith))
      (le_or_lt last j)

pub ranked_told : (places : List ℕ) (last rank at w : ℕ) → rank ≤ last → w ≡ get_or places rank 0 → eqb w at ≡ true → OneOf places (last + 1) at
ranked_told places last rank at w h e t = record { rank = rank; below = omega arith; stands = sym e ∙ eqb-true w at t }

-- ---- every name is one of those that ascend

-- of the names that are left: none stands there twice, and each begins at one of the places
pub record LeftApart (s places : List ℕ) (m at : ℕ) : Type 0 where
  pub once : repeats [] (elements_left s at) ≡ false
  pub placed : (y : List ℕ) → among y (elements_left s at) ≡ true → (b : ℕ) × (at ≤ b) × OneOf places m b × (y ≡ name_at s b)

module _ (s places : List ℕ) (m at : ℕ) where
  pub apart_first : at ≡ first_element s → LeftApart s places m at → repeats [] (elements_in s) ≡ false
  apart_first h known = rw (← left_first s, ← h) known.once

  module _ (r : Option Element) (q : r ≡ element_at s at) where
    pub none_apart : r ≡ None → LeftApart s places m at
    unfolding among any_of
    none_apart n = record { once = rw (left_none s at r q n) repeats_none; placed = λ y h. absurd (false≢true (rw (left_none s at r q n) at h)) }

    module _ (f : Element) (n : r ≡ Some f) (w : SpacedFrom s at) (one : OneOf places m at) (known : LeftApart s places m f.next) (ascends : Ascends s places m) where
      after : at < f.next
      after = omega (arith, found_less s at r q f n)

      left_is : elements_left s at ≡ name_at s at ∷ elements_left s f.next
      left_is = rw (← piece_length comma s at f.end (found_at s at r q f n).ends) (left_found s at r q f n w)

      not_again : among (name_at s at) (elements_left s f.next) ≡ false
      not_again = go (among (name_at s at) (elements_left s f.next)) refl
        where
          go : (t : Bool) → among (name_at s at) (elements_left s f.next) ≡ t → t ≡ false
          go true e = let p = known.placed (name_at s at) e in
              absurd (names_apart s places m ascends at p.0 one p.2 (omega (arith, after)) p.3)
          go false e = refl

      placed_too : (y : List ℕ) → among y (name_at s at ∷ elements_left s f.next) ≡ true → (b : ℕ) × (at ≤ b) × OneOf places m b × (y ≡ name_at s b)
      unfolding among any_of
      placed_too y h =
          ⊎_elim
          (λ (e : same y (name_at s at) ≡ true). (at, omega arith, one, same_equal y (name_at s at) e))
          (λ (e : among y (elements_left s f.next) ≡ true). let p = known.placed y e in (p.0, omega (arith, after), p.2, p.3))
          (either_of (same y (name_at s at)) (among y (elements_left s f.next)) h)

      one_more : LeftApart s places m at
      one_more = record {
        once = rw (left_is, repeats_first (name_at s at) (elements_left s f.next)) (neither (among (name_at s at) (elements_left s f.next)) (repeats [] (elements_left s f.next)) not_again known.once);
        placed = λ y h. placed_too y (rw left_is at h);
      }

    pub apart_again : (f : Element) → r ≡ Some f → SpacedFrom s at → Ascends s places m
        → (LeftApart s places m at → repeats [] (elements_in s) ≡ false) → (t : Bool) → (t ≡ true → OneOf places m at) → not t ≡ false
        → LeftApart s places m f.next → repeats [] (elements_in s) ≡ false
    apart_again f n w ascends inv t one h known = inv (one_more f n w (one (not-false t h)) known ascends)
