-- Two patterns that begin, or end, with elements that no frame meets both: no stack matches both patterns.
use Prim.Native.Nat.{ℕ, suc, ◌-◌, ◌<◌}
use native.Mathlib.Omega.{arith}
use mathlib.Core.Logic.{⊎_elim}
use mathlib.Core.Path.{◌≡◌, refl, sym, ap, ◌∙◌}
use mathlib.Core.Bool.{Bool, true, false, not, false≢true}
use mathlib.Core.List.{List, [], ◌∷◌, ◌++◌, map, map-append}
use lib.ListN.{length, get_or, take}
use lib.Seq.{take-suc, take_all}
use Rattle.paper.specs.Policy.{Element, all, fn, any_in}
use Rattle.paper.specs.Match.{lies_in, first_meets, matches, is_all}
use Rattle.paper.specs.Table.{element_in}
use Rattle.paper.specs.Overlap.{witness_left}
use Rattle.laws.specs.Frames.{meets_frame}
use Rattle.laws.proofs.Elements.{empty_refuses, single_matches, at_element}
use Rattle.std.specs.Prelude.{Option, Some as Told_frame, None, is_some}
use Rattle.overlap_cells.specs.declared.element.Element.{Element as Told}
use Rattle.overlap_cells.specs.declared.element.Element.TheVariants.{All, Function, Domain}
use Rattle.overlap_cells.specs.Element.{meant}
use Rattle.overlap_cells.specs.Best.{top_passes, Meet, common_frame, frame_of, best_stack}
use Rattle.overlap_cells.specs.Cells.{Differ, NeverMeet}
use Rattle.overlap_meeting.specs.Written.{Written}
use Rattle.overlap_meeting.proofs.Common.{Met, none_common}
use Rattle.overlap_meeting.proofs.Best.{Some, single_split, base_met, all_split, all_none, top_one, top_none, top_more}
use Rattle.overlap_meeting.proofs.Order.{best_sound}

-- ---- the top of a stack that a pattern with an element other than `all` at its end matches
top_kept : (test : ℕ → Bool) (x : ℕ) (s : List ℕ) → top_passes test s ≡ true → top_passes test (x ∷ s) ≡ true
top_kept test x [] h = absurd (top_none test h)
top_kept test x (y ∷ s) h = top_more test x y s ∙ h

module _ (F : List ℕ) where
  single_none : {A : Type 0} (e : Element) (P : List Element) → is_all e ≡ false → matches F (e ∷ P) [] ≡ true → A
  unfolding first_meets
  single_none e P single h = absurd (false≢true (sym (single_matches F e P [] single) ∙ h))

  module _ (e : Element) (single : is_all e ≡ false) where
    -- the pattern ends in e
    abbrev ended : List Element → List Element
    ended P = P ++ (e ∷ [])

    -- e meets the top frame
    abbrev TopMet : List ℕ → Type 0
    TopMet s = top_passes (meets_frame F e) s ≡ true

    only_frame : (x : ℕ) (s : List ℕ) → meets_frame F e x ≡ true → matches F [] s ≡ true → TopMet (x ∷ s)
    only_frame x [] m h = top_one (meets_frame F e) x ∙ m
    only_frame x (y ∷ s) m h = absurd (false≢true (rw (empty_refuses F y s) at h))

    module _ (P : List Element) (ih : (s : List ℕ) → matches F (ended P) s ≡ true → TopMet s) where
      top_past_all : (s : List ℕ) → matches F (all ∷ ended P) s ≡ true → TopMet s
      top_past_all [] h = ih [] (sym (all_none F (ended P)) ∙ h)
      top_past_all (x ∷ s) h = ⊎_elim (λ m. ih (x ∷ s) m) (λ m. top_kept (meets_frame F e) x s (top_past_all s m)) (all_split F x (ended P) s h)

      top_past_single : (a : Element) → is_all a ≡ false → (s : List ℕ) → matches F (a ∷ ended P) s ≡ true → TopMet s
      top_past_single a n [] h = single_none a (ended P) n h
      top_past_single a n (x ∷ s) h = top_kept (meets_frame F e) x s (ih s (single_split F a x (ended P) s n h).1)

    top_met : (P : List Element) (s : List ℕ) → matches F (ended P) s ≡ true → TopMet s
    unfolding is_all
    top_met [] [] h = single_none e [] single h
    top_met [] (x ∷ s) h = let k = single_split F e x [] s single h in only_frame x s k.0 k.1
    top_met (all ∷ P) s h = top_past_all P (top_met P) s h
    top_met (fn f ∷ P) s h = top_past_single P (top_met P) (fn f) refl s h
    top_met (any_in d ∷ P) s h = top_past_single P (top_met P) (any_in d) refl s h

-- a stack has one top
one_top : (f g : ℕ → Bool) → ((y : ℕ) → (f y ≡ true) × (g y ≡ true) → ⊥) → (s : List ℕ) → top_passes f s ≡ true → top_passes g s ≡ true → ⊥
one_top f g never [] h k = top_none f h
one_top f g never (x ∷ []) h k = never x (sym (top_one f x) ∙ h, sym (top_one g x) ∙ k)
one_top f g never (x ∷ y ∷ s) h k = one_top f g never (y ∷ s) (sym (top_more f x y s) ∙ h) (sym (top_more g x y s) ∙ k)

-- ---- the words of a pattern up to its last
last_word : (p : List ℕ) → (length p ≡ 0 → ⊥) → map element_in p ≡ map element_in (take (length p - 1) p) ++ (element_in (get_or p (length p - 1) 0) ∷ [])
last_word p h =
    let e : suc (length p - 1) ≡ length p = omega arith in
    let s = take-suc p (length p - 1) 0 (omega arith) in
    let t : p ≡ take (length p - 1) p ++ (get_or p (length p - 1) 0 ∷ []) = sym (take_all (length p) p (omega arith)) ∙ (rw e at s) in
    ap (map element_in) t ∙ map-append element_in (take (length p - 1) p) _

-- ---- the tests
pub not_tested : {A : Type 0} → false ≡ true → A
not_tested e = absurd (false≢true e)

other_told : (a : Told) → (a ≡ All → ⊥) → is_all (meant a) ≡ false
unfolding is_all
other_told All n = absurd (n refl)
other_told (Function f) n = refl
other_told (Domain d) n = refl

pub nothing_in_common : (F : List ℕ) (a b : Told) (r : Option ℕ) (t : Bool) → (a ≡ All → ⊥) → (b ≡ All → ⊥) → frame_of r ≡ common_frame F (meant a) (meant b) →
    is_some r ≡ not t → t ≡ true → Differ F (meant a) (meant b)
unfolding frame_of
nothing_in_common F a b None t n m told e h = record { one = other_told a n; other = other_told b m; apart = sym told }
nothing_in_common F a b (Told_frame f) t n m told e h = absurd (false≢true (sym (e ∙ ap not h)))

never_met : (F : List ℕ) (a b : Element) → Differ F a b → (y : ℕ) → Met F a b y → ⊥
never_met F a b k = none_common F a b (rw k.one) k.apart

-- where the patterns meet in no stack, none is the best
none_best : (F p q : List ℕ) → ((d : ℕ) (s : List ℕ) → Meet F (lies_in F d) (map element_in p) (map element_in q) s → ⊥) → NeverMeet F p q
unfolding NeverMeet
none_best F p q never d = go (best_stack F d (map element_in p) (map element_in q)) (best_sound F d (map element_in p) (map element_in q))
  where
    go : (u : List ℕ) → (Some u → Meet F (lies_in F d) (map element_in p) (map element_in q) u) → u ≡ []
    go [] meet = refl
    go (x ∷ u) meet = absurd (never d (x ∷ u) (meet tt))

-- ---- the first two elements, and the last two
module _ (F p q : List ℕ) (x y : ℕ) (a b : Told) (of_a : meant a ≡ element_in x) (of_b : meant b ≡ element_in y) (apart : Differ F (meant a) (meant b)) where
  differ_in : Differ F (element_in x) (element_in y)
  differ_in = rw (← of_a, ← of_b) apart

  pub begin_apart : 0 < length p → 0 < length q → x ≡ get_or p 0 0 → y ≡ get_or q 0 0 → NeverMeet F p q
  begin_apart hp hq e f = none_best F p q go
    where
      go : (d : ℕ) (s : List ℕ) → Meet F (lies_in F d) (map element_in p) (map element_in q) s → ⊥
      go d [] c = top_none (lies_in F d) c.top
      go d (z ∷ s) c =
          never_met F (element_in x) (element_in y) differ_in z (
            base_met F (element_in x) z _ s (rw (at_element p 0 hp, ← e) at c.one),
            base_met F (element_in y) z _ s (rw (at_element q 0 hq, ← f) at c.other),
          )

  pub end_apart : 0 < length p → 0 < length q → x ≡ get_or p (length p - 1) 0 → y ≡ get_or q (length q - 1) 0 → NeverMeet F p q
  end_apart hp hq e f = none_best F p q go
    where
      go : (d : ℕ) (s : List ℕ) → Meet F (lies_in F d) (map element_in p) (map element_in q) s → ⊥
      go d s c =
          one_top (meets_frame F (element_in x)) (meets_frame F (element_in y)) (never_met F (element_in x) (element_in y) differ_in) s
          (top_met F (element_in x) differ_in.one (map element_in (take (length p - 1) p)) s (rw (last_word p (λ z. omega arith), ← e) at c.one))
          (top_met F (element_in y) differ_in.other (map element_in (take (length q - 1) q)) s (rw (last_word q (λ z. omega arith), ← f) at c.other))

pub none_written : (F p q old new : List ℕ) (d : ℕ) → NeverMeet F p q → new ≡ witness_left [] old → Written (best_stack F d (map element_in p) (map element_in q)) old new None
unfolding NeverMeet
none_written F p q old new d never left = rw (never d) (record { counted = refl; left = left })
