-- What each function's loop keeps, and what its answers say.
use mathlib.Core.Path.{◌≡◌, refl, sym, ◌∙◌}
use mathlib.Core.Bool.{Bool, true, false, ◌&&◌, ◌||◌}
use mathlib.Core.List.{List, []}
use Prim.Native.Nat.{ℕ, ◌-◌, ◌<◌, ◌≤◌}
use native.Mathlib.Omega.{arith}
use mir.Syntax.{w32}
use mir.Val.{Fits}
use lib.Dec.{leb}
use lib.ListN.{length, take, drop}
use borrow.Author.Tests.{lt-leb, le-leb}
use Rattle.paper.specs.Common.{same, any_of, among}
use Rattle.paper.specs.Limits.{text_bytes}
use Rattle.paper.specs.Lists.{elements_in}
use Rattle.paper.specs.Rules.{repeats}
use Rattle.laws.proofs.Tests.{both_right, either_left, either_right, neither}
use Rattle.text_lists.specs.Walk.{first_element, element_at, elements_left, SpacedFrom}
use Rattle.std.specs.Prelude.{Option, Some, None}
use Rattle.text_lists.specs.declared.Element.{Element}
use Rattle.text_lists.proofs.Walk.{left_first, left_none, left_found, found_at}
use Rattle.text_order.proofs.Names.{repeats_first, repeats_none}

-- ---- the places where names begin

pub place_word : (s : List ℕ) (at : ℕ) (r : Option Element) → r ≡ element_at s at → (f : Element) → r ≡ Some f → length s ≤ text_bytes → Fits w32 at
place_word s at r q f n h = omega (arith, (found_at s at r q f n).within)

-- ---- a name is looked for

module _ (x s : List ℕ) (from at : ℕ) (r : Option Element) (q : r ≡ element_at s at) (inv : among x (elements_left s at) ≡ among x (elements_left s from)) where
  pub stands_none : r ≡ None → false ≡ among x (elements_left s from)
  unfolding among any_of
  stands_none n = rw (← inv, left_none s at r q n)

  module _ (f : Element) (n : r ≡ Some f) (w : SpacedFrom s at) (t : Bool) (e : t ≡ same x (take (f.end - at) (drop at s))) where
    pub stands_here : t ≡ true → true ≡ among x (elements_left s from)
    unfolding among any_of
    stands_here h = rw (← inv, left_found s at r q f n w, ← e, h)

    pub stands_later : t ≡ false → among x (elements_left s f.next) ≡ among x (elements_left s from)
    unfolding among any_of
    stands_later h = rw (← inv, left_found s at r q f n w, ← e, h)

pub passed_over : (from at : ℕ) (t : Bool) → at < from → false ≡ (leb from at && t)
passed_over from at t h = rw (lt-leb from at h)

pub looked_for : (from at : ℕ) (t r : Bool) → from ≤ at → r ≡ t → r ≡ (leb from at && t)
looked_for from at t r h e = rw (le-leb from at h) e

-- ---- each name is looked for behind itself

module _ (s : List ℕ) (from at : ℕ) where
  pub first_yes : at ≡ first_element s → repeats [] (elements_left s at) ≡ true → repeats [] (elements_in s) ≡ true
  first_yes h = rw (h, left_first s) (λ e. e)

  pub first_not : at ≡ first_element s → from ≡ 0 → repeats [] (elements_left s at) ≡ false → repeats [] (elements_in s) ≡ false
  first_not h z = rw (h, left_first s) (λ e. e)

  module _ (r : Option Element) (q : r ≡ element_at s at) where
    pub none_twice : r ≡ None → repeats [] (elements_left s at) ≡ false
    none_twice n = rw (left_none s at r q n) repeats_none

    module _ (f : Element) (n : r ≡ Some f) (w : SpacedFrom s at) (t : Bool) (e : t ≡ (leb from at && among (take (f.end - at) (drop at s)) (elements_left s f.next))) where
      left_first_again : repeats [] (elements_left s at) ≡ (among (take (f.end - at) (drop at s)) (elements_left s f.next) || repeats [] (elements_left s f.next))
      left_first_again = rw (left_found s at r q f n w) (repeats_first (take (f.end - at) (drop at s)) (elements_left s f.next))

      pub twice_here : t ≡ true → repeats [] (elements_left s at) ≡ true
      twice_here h = rw left_first_again (either_left _ _ (both_right (leb from at) _ (sym e ∙ h)))

      pub yes_again : (repeats [] (elements_left s at) ≡ true → repeats [] (elements_in s) ≡ true) → repeats [] (elements_left s f.next) ≡ true → repeats [] (elements_in s) ≡ true
      yes_again inv h = inv (rw left_first_again (either_right (among (take (f.end - at) (drop at s)) (elements_left s f.next)) _ h))

      pub not_again_behind : (from ≡ 0 → repeats [] (elements_left s at) ≡ false → repeats [] (elements_in s) ≡ false) → t ≡ false
          → from ≡ 0 → repeats [] (elements_left s f.next) ≡ false → repeats [] (elements_in s) ≡ false
      not_again_behind inv h z k =
          let l : leb from at ≡ true = le-leb from at (omega arith) in
          let a : among (take (f.end - at) (drop at s)) (elements_left s f.next) ≡ false = rw l at (sym e ∙ h) in
          inv z (rw left_first_again (neither _ _ a k))

-- ---- the answer

pub said : (R t : Bool) → (t ≡ true → R ≡ true) → (t ≡ false → ◌≡◌ {A = ℕ} 0 0 → R ≡ false) → t ≡ R
said R true told otherwise = sym (told refl)
said R false told otherwise = sym (otherwise refl refl)
