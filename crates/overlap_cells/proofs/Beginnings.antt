-- The frames that elements meet, and the first elements of two patterns, from their words.
use Prim.Native.Nat.{ℕ, ◌+◌, ◌-◌, ◌<◌, ◌≤◌}
use mathlib.Core.Path.{◌≡◌, refl, sym, ◌∙◌}
use mathlib.Core.Bool.{Bool, true, false, cond, ◌&&◌, false≢true}
use mathlib.Core.List.{List, [], ◌∷◌, cons≢nil}
use lib.Dec.{eqb}
use lib.ListN.{length}
use borrow.Author.Tests.{ne_eqb, lt-ltb, le-ltb}
use denote.Bor.{Bor}
use Rattle.std.specs.Prelude.{Option, Some, None, MatchOption, if◌then◌else◌}
use Rattle.std.specs.Option.{option_eq}
use Rattle.std.specs.List.{HoldsAt}
use Rattle.paper.specs.Policy.{Element, all, fn, any_in}
use Rattle.paper.specs.Match.{lies_in, matches, is_all}
use Rattle.paper.specs.Table.{first_domain_word, element_in}
use Rattle.laws.proofs.Elements.{word_function, word_domain, at_element, at_end_lem}
use Rattle.overlap_cells.specs.declared.element.Element.{Element as Told}
use Rattle.overlap_cells.specs.declared.element.Element.TheVariants.{All, Function, Domain}
use Rattle.overlap_cells.specs.declared.firsts.Firsts.{Firsts}
use Rattle.overlap_cells.specs.declared.firsts.Firsts.TheVariants.{BothAll, OneAll, OtherAll, Same, Apart}
use Rattle.overlap_cells.specs.Element.{meant}
use Rattle.overlap_cells.specs.Best.{lowest_frame, common_frame, frame_of, firsts_at, firsts_of}
use Rattle.overlap_cells.specs.Cells.{pattern_from, firsts_from}

-- ---- whether a function lies in a domain
pub listed_there : (F : List ℕ) (d f : ℕ) (r : Option (Bor ℕ)) (t : Bool) (v : Bor ℕ) → t ≡ option_eq (λ x y. eqb x.now y.now) r (Some v) → v.now ≡ d →
    MatchOption r (length F ≤ f) (λ x. (f < length F) × HoldsAt (λ y. x.now ≡ y) F f) → t ≡ lies_in F d f
unfolding lies_in
listed_there F d f None t v e same h = e ∙ sym (rw (le-ltb f (length F) h))
listed_there F d f (Some x) t v e same h = e ∙ rw (lt-ltb f (length F) h.0, same, ← (h.1 0))

-- ---- the element of a word
module _ (w : ℕ) where
  pub of_all : w ≡ 0 → all ≡ element_in w
  unfolding element_in
  of_all e = rw e

  pub of_function : (w ≡ 0 → ⊥) → w < first_domain_word → fn (w - 1) ≡ element_in w
  of_function n h = sym (word_function w n h)

  pub of_domain : first_domain_word ≤ w → any_in (w - first_domain_word) ≡ element_in w
  of_domain h = sym (word_domain w h)

-- ---- a function that two elements both meet, where one of them is it
pub met : (f : ℕ) (s t : Bool) (r : Option ℕ) → r ≡ if t then Some f else None → t ≡ s → frame_of r ≡ cond s (f ∷ []) []
unfolding frame_of
met f true t r e h = rw (e, h)
met f false t r e h = rw (e, h)

pub other_domain : (F : List ℕ) (d e : ℕ) (t : Bool) → (d ≡ e → ⊥) → frame_of None ≡ common_frame F (any_in d) (any_in e)
unfolding common_frame frame_of
other_domain F d e t n = rw (ne_eqb d e n)

-- ---- which are `all`
all_told : (a : Told) → a ≡ All → is_all (meant a) ≡ true
unfolding is_all
all_told a e = rw e

other_told : (a : Told) → (a ≡ All → ⊥) → is_all (meant a) ≡ false
unfolding is_all
other_told All n = absurd (n refl)
other_told (Function f) n = refl
other_told (Domain d) n = refl

all_only : (e : Element) → is_all e ≡ true → e ≡ all
unfolding is_all
all_only all h = refl
all_only (fn f) h = absurd (false≢true h)
all_only (any_in d) h = absurd (false≢true h)

none_of_all : (F : List ℕ) → common_frame F all all ≡ []
unfolding common_frame lowest_frame
none_of_all F = refl

no_frame : {A : Type 0} (f : ℕ) (u : List ℕ) → f ∷ [] ≡ u → u ≡ [] → A
no_frame f [] e h = absurd (cons≢nil e)
no_frame f (x ∷ u) e h = absurd (cons≢nil h)

-- ---- the first elements, from the frame that both meet
module _ (F : List ℕ) (test : ℕ → Bool) (last : Bool) (a b : Told) where
  abbrev firsts : Firsts
  firsts = firsts_of F test (meant a) (meant b) last

  pub firsts_both_all : a ≡ All → b ≡ All → BothAll last ≡ firsts
  unfolding firsts_of firsts_at
  firsts_both_all e h = rw (all_told a e, all_told b h)

  module _ (none : frame_of None ≡ common_frame F (meant a) (meant b)) where
    pub firsts_apart_one : (a ≡ All → ⊥) → Apart ≡ firsts
    unfolding firsts_of frame_of firsts_at
    firsts_apart_one n = rw (other_told a n, ← none) (go (is_all (meant b)))
      where
        go : (t : Bool) → Apart ≡ firsts_at test false t [] last
        go true = refl
        go false = refl

    pub firsts_apart_other : (b ≡ All → ⊥) → Apart ≡ firsts
    unfolding firsts_of frame_of firsts_at
    firsts_apart_other n = rw (other_told b n, ← none) (go (is_all (meant a)))
      where
        go : (t : Bool) → Apart ≡ firsts_at test t false [] last
        go true = refl
        go false = refl

  module _ (f : ℕ) (u : Bool) (told : frame_of (Some f) ≡ common_frame F (meant a) (meant b)) (lies : u ≡ test f) where
    pub firsts_one_all : a ≡ All → OneAll f (u && last) ≡ firsts
    unfolding firsts_of firsts_at frame_of
    firsts_one_all e = go (is_all (meant b)) refl
      where
        go : (t : Bool) → is_all (meant b) ≡ t → OneAll f (u && last) ≡ firsts
        go true h = no_frame f (common_frame F (meant a) (meant b)) told (rw (e, all_only (meant b) h) (none_of_all F))
        go false h = rw (all_told a e, h, ← told, lies)

    pub firsts_other_all : (a ≡ All → ⊥) → b ≡ All → OtherAll f (u && last) ≡ firsts
    unfolding firsts_of firsts_at frame_of
    firsts_other_all n e = rw (other_told a n, all_told b e, ← told, lies)

    pub firsts_same : (a ≡ All → ⊥) → (b ≡ All → ⊥) → Same f (u && last) ≡ firsts
    unfolding firsts_of firsts_at frame_of
    firsts_same n m = rw (other_told a n, other_told b m, ← told, lies)

-- ---- two patterns from places i and j on
nothing_other : (F : List ℕ) (test : ℕ → Bool) (P : List Element) → firsts_from F test P [] ≡ Apart
unfolding firsts_from
nothing_other F test [] = refl
nothing_other F test (a ∷ P) = refl

module _ (F : List ℕ) (test : ℕ → Bool) (p q : List ℕ) (i j : ℕ) where
  abbrev from : Firsts
  from = firsts_from F test (pattern_from i p) (pattern_from j q)

  pub one_ended : length p ≤ i → Apart ≡ from
  unfolding firsts_from
  one_ended h = rw (at_end_lem p i h)

  pub other_ended : length q ≤ j → Apart ≡ from
  other_ended h = rw (at_end_lem q j h, nothing_other F test (pattern_from i p))

  pub firsts_read : (last : Bool) (r : Firsts) (x y : ℕ) (a b : Told) →
      (i < length p) × HoldsAt (λ z. x ≡ z) p i → (j < length q) × HoldsAt (λ z. y ≡ z) q j → meant a ≡ element_in x → meant b ≡ element_in y →
      last ≡ (matches F (pattern_from (i + 1) p) [] && matches F (pattern_from (j + 1) q) []) → r ≡ firsts_of F test (meant a) (meant b) last → r ≡ from
  unfolding firsts_from
  firsts_read last r x y a b h k f g e told = rw (at_element p i h.0, at_element q j k.0, ← (h.1 0), ← (k.1 0), ← f, ← g, ← e) told
