-- `best_by` is sound, complete, short and least.
use Prim.Native.Nat.{ℕ, zero, suc, ◌+◌, ◌≤◌, suc-le-suc}
use native.Mathlib.Omega.{arith}
use mathlib.Core.Logic.{◌⊎◌, ⊎_elim}
use mathlib.Core.Path.{◌≡◌, refl, sym, ◌∙◌}
use mathlib.Core.Bool.{Bool, true, false, ◌&&◌, cond, false≢true}
use mathlib.Core.List.{List, [], ◌∷◌}
use lib.ListN.{length}
use Rattle.paper.specs.Policy.{Element, all, fn, any_in}
use Rattle.paper.specs.Match.{lies_in, swallowing, first_meets, matches, is_all}
use Rattle.laws.specs.Frames.{meets_frame}
use Rattle.laws.proofs.Tests.{le_or_lt, both_true, both_of, either_of, either_right}
use Rattle.laws.proofs.Elements.{empty_refuses, all_takes, single_matches}
use Rattle.overlap_cells.specs.Best.{top_passes, Meet, better, in_front, common_frame, firsts_at, firsts_of, best_with, row, best_by}
use Rattle.overlap_meeting.proofs.Common.{Met, StandsFor, common_met, common_stands, none_common}

-- ---- what a step of `matches` says
module _ (F : List ℕ) where
  -- an element that is not `all`
  module _ (e : Element) (x : ℕ) (P : List Element) (w : List ℕ) (single : is_all e ≡ false) where
    pub single_split : matches F (e ∷ P) (x ∷ w) ≡ true → (meets_frame F e x ≡ true) × (matches F P w ≡ true)
    unfolding first_meets
    single_split h = both_of (meets_frame F e x) (matches F P w) (sym (single_matches F e P (x ∷ w) single) ∙ h)

    single_join : meets_frame F e x ≡ true → matches F P w ≡ true → matches F (e ∷ P) (x ∷ w) ≡ true
    unfolding first_meets
    single_join m h = single_matches F e P (x ∷ w) single ∙ both_true (meets_frame F e x) (matches F P w) m h

  pub all_split : (x : ℕ) (P : List Element) (w : List ℕ) → matches F (all ∷ P) (x ∷ w) ≡ true → (matches F P (x ∷ w) ≡ true) ⊎ (matches F (all ∷ P) w ≡ true)
  unfolding matches swallowing
  all_split x P w h = either_of (matches F P (x ∷ w)) (matches F (all ∷ P) w) h

  pub all_keep : (x : ℕ) (P : List Element) (w : List ℕ) → matches F (all ∷ P) w ≡ true → matches F (all ∷ P) (x ∷ w) ≡ true
  unfolding matches swallowing
  all_keep x P w h = either_right (matches F P (x ∷ w)) (matches F (all ∷ P) w) h

  pub all_none : (P : List Element) → matches F (all ∷ P) [] ≡ matches F P []
  unfolding matches swallowing
  all_none P = refl

is_all_lem : (e : Element) → is_all e ≡ true → e ≡ all
unfolding is_all
is_all_lem all h = refl
is_all_lem (fn f) h = absurd (false≢true h)
is_all_lem (any_in d) h = absurd (false≢true h)

-- the base frame and the first element
module _ (F : List ℕ) (e : Element) (x : ℕ) where
  all_meets : is_all e ≡ true → meets_frame F e x ≡ true
  unfolding meets_frame
  all_meets h = rw (is_all_lem e h)

  pub base_met : (P : List Element) (w : List ℕ) → matches F (e ∷ P) (x ∷ w) ≡ true → meets_frame F e x ≡ true
  base_met P w h = go (is_all e) refl
    where
      go : (t : Bool) → is_all e ≡ t → meets_frame F e x ≡ true
      go true f = all_meets f
      go false f = (single_split F e x P w f h).0

-- ---- the top
module _ (test : ℕ → Bool) where
  pub top_more : (a x : ℕ) (u : List ℕ) → top_passes test (a ∷ x ∷ u) ≡ top_passes test (x ∷ u)
  unfolding top_passes
  top_more a x u = refl

  pub top_one : (a : ℕ) → top_passes test (a ∷ []) ≡ test a
  unfolding top_passes
  top_one a = refl

  pub top_none : top_passes test [] ≡ true → ⊥
  unfolding top_passes
  top_none h = false≢true h

  -- the empty pattern matches no stack with a top
  no_meeting : {A : Type 0} (F w : List ℕ) → matches F [] w ≡ true → top_passes test w ≡ true → A
  no_meeting F [] m h = absurd (top_none h)
  no_meeting F (x ∷ w) m h = absurd (false≢true (rw (empty_refuses F x w) at m))

-- there is a stack
abbrev pub Some : List ℕ → Type 0
Some [] = ⊥
Some (x ∷ u) = Unit {0}

module _ (F : List ℕ) (order : List ℕ → List ℕ → Bool) where
  -- both patterns match the empty stack
  abbrev end : List Element → List Element → Bool
  end P Q = matches F P [] && matches F Q []

  better_or : (G : List ℕ → Type 0) (u v : List ℕ) → G u → G v → G (better order u v)
  unfolding better
  better_or G [] v g h = h
  better_or G (x ∷ u) [] g h = g
  better_or G (x ∷ u) (y ∷ v) g h = choose (order (x ∷ u) (y ∷ v))
    where
      choose : (t : Bool) → G (cond t (x ∷ u) (y ∷ v))
      choose true = g
      choose false = h

  module _ (test : ℕ → Bool) (low : List ℕ) where
    -- ---- sound: both patterns meet in what is found
    unfoldable pub Good : List Element → List Element → List ℕ → Type 0
    Good P Q u = Some u → Meet F test P Q u

    good_none : (P Q : List Element) → Good P Q []
    unfolding Good
    good_none P Q s = absurd s

    good_one : (P Q : List Element) (u : List ℕ) → Good P Q u → Good (all ∷ P) Q u
    unfolding Good
    good_one P Q u g s = record { one = all_takes F P u (g s).one; other = (g s).other; top = (g s).top }

    good_other : (P Q : List Element) (u : List ℕ) → Good P Q u → Good P (all ∷ Q) u
    unfolding Good
    good_other P Q u g s = record { one = (g s).one; other = all_takes F Q u (g s).other; top = (g s).top }

    -- a in front of a stack that p and q meet in
    module _ (a : ℕ) (P Q p q : List Element)
        (eat-one : (w : List ℕ) → matches F p w ≡ true → matches F P (a ∷ w) ≡ true)
        (eat-other : (w : List ℕ) → matches F q w ≡ true → matches F Q (a ∷ w) ≡ true) where
      good_front : (t : Bool) (d : List ℕ) → (t ≡ true → (test a ≡ true) × (end p q ≡ true)) → Good p q d → Good P Q (in_front t a d)
      unfolding Good in_front
      good_front true d e g s =
          let k = e refl in
          let l = both_of (matches F p []) (matches F q []) k.1 in
          record { one = eat-one [] l.0; other = eat-other [] l.1; top = top_one test a ∙ k.0 }
      good_front false [] e g s = absurd s
      good_front false (x ∷ d) e g s =
          let k = g tt in
          record { one = eat-one (x ∷ d) k.one; other = eat-other (x ∷ d) k.other; top = top_more test a x d ∙ k.top }

      good_eat : (d : List ℕ) → Good p q d → Good P Q (in_front (test a && end p q) a d)
      good_eat d g = good_front (test a && end p q) d (both_of (test a) (end p q)) g

    module _ (low_good : Some low → (P Q : List Element) → matches F P [] ≡ true → matches F Q [] ≡ true → Meet F test (all ∷ P) (all ∷ Q) low) where
      good_low : (P Q : List Element) (t : Bool) → (t ≡ true → end P Q ≡ true) → Good (all ∷ P) (all ∷ Q) (cond t low [])
      unfolding Good
      good_low P Q true e s = let l = both_of (matches F P []) (matches F Q []) (e refl) in low_good s P Q l.0 l.1
      good_low P Q false e s = absurd s

      -- by which of the two elements are `all`
      module _ (P Q : List Element) (one other : List ℕ) where
        good_both_all : Good P (all ∷ Q) one → Good (all ∷ P) Q other → Good (all ∷ P) (all ∷ Q) (better order (better order one other) (cond (end P Q) low []))
        good_both_all h k =
            better_or (Good (all ∷ P) (all ∷ Q)) (better order one other) (cond (end P Q) low [])
            (better_or (Good (all ∷ P) (all ∷ Q)) one other (good_one P (all ∷ Q) one h) (good_other (all ∷ P) Q other k))
            (good_low P Q (end P Q) (λ e. e))

        module _ (e : Element) (x : ℕ) (single : is_all e ≡ false) (m : meets_frame F e x ≡ true) where
          good_one_all : Good P (e ∷ Q) one → Good (all ∷ P) Q other → Good (all ∷ P) (e ∷ Q) (better order one (in_front (test x && end P Q) x other))
          good_one_all h k =
              better_or (Good (all ∷ P) (e ∷ Q)) one (in_front (test x && end P Q) x other)
              (good_one P (e ∷ Q) one h)
              (rw (← (all_none F P)) (good_eat x (all ∷ P) (e ∷ Q) (all ∷ P) Q (all_keep F x P) (λ w. single_join F e x Q w single m) other k))

          good_other_all : Good P (all ∷ Q) one → Good (e ∷ P) Q other → Good (e ∷ P) (all ∷ Q) (better order other (in_front (test x && end P Q) x one))
          good_other_all h k =
              better_or (Good (e ∷ P) (all ∷ Q)) other (in_front (test x && end P Q) x one)
              (good_other (e ∷ P) Q other k)
              (rw (← (all_none F Q)) (good_eat x (e ∷ P) (all ∷ Q) P (all ∷ Q) (λ w. single_join F e x P w single m) (all_keep F x Q) one h))

      good_cell : (a b : Element) (P Q : List Element) (both one other : List ℕ) → Good P Q both → Good P (b ∷ Q) one → Good (a ∷ P) Q other →
          Good (a ∷ P) (b ∷ Q) (best_with order low (firsts_of F test a b (end P Q)) both one other)
      unfolding best_with firsts_of firsts_at
      good_cell a b P Q both one other g h k = go (is_all a) (is_all b) (common_frame F a b) refl refl refl
        where
          go : (s t : Bool) (u : List ℕ) → is_all a ≡ s → is_all b ≡ t → common_frame F a b ≡ u →
              Good (a ∷ P) (b ∷ Q) (best_with order low (firsts_at test s t u (end P Q)) both one other)
          go true true u e f c = rw (is_all_lem a e, is_all_lem b f) (good_both_all P Q one other (rw (is_all_lem b f) at h) (rw (is_all_lem a e) at k))
          go true false [] e f c = good_none (a ∷ P) (b ∷ Q)
          go true false (x ∷ u) e f c =
              let m = rw c at (common_met F a b) in
              rw (is_all_lem a e) (good_one_all P Q one other b x f m.1 h (rw (is_all_lem a e) at k))
          go false true [] e f c = good_none (a ∷ P) (b ∷ Q)
          go false true (x ∷ u) e f c =
              let m = rw c at (common_met F a b) in
              rw (is_all_lem b f) (good_other_all P Q one other a x e m.0 (rw (is_all_lem b f) at h) k)
          go false false [] e f c = good_none (a ∷ P) (b ∷ Q)
          go false false (x ∷ u) e f c =
              let m = rw c at (common_met F a b) in
              good_eat x (a ∷ P) (b ∷ Q) P Q (λ w. single_join F a x P w e m.0) (λ w. single_join F b x Q w f m.1) both g

      good_row : (a : Element) (P : List Element) → ((Q : List Element) → Good P Q (best_by F order test low P Q)) → (Q : List Element) →
          Good (a ∷ P) Q (row F order test low a (matches F P []) (best_by F order test low P) Q)
      unfolding row
      good_row a P ih [] = good_none (a ∷ P) []
      good_row a P ih (b ∷ Q) = good_cell a b P Q _ _ _ (ih Q) (ih (b ∷ Q)) (good_row a P ih Q)

      pub sound : (P Q : List Element) → Good P Q (best_by F order test low P Q)
      unfolding best_by
      sound [] Q = good_none [] Q
      sound (a ∷ P) Q = good_row a P (sound P) Q

    -- ---- short: of two patterns of m and n elements no more frames than the greatest of m, n and m + n - 2.
    -- A function in front of what one pattern and the rest of the other need could make one more only where that rest is of at most one element
    module _ (low-short : length low ≤ 1) where
      front_short : (t : Bool) (a : ℕ) (d : List ℕ) (n : ℕ) → suc (length d) ≤ n → length (in_front t a d) ≤ n
      unfolding in_front
      front_short true a d n h = omega arith
      front_short false a [] n h = omega arith
      front_short false a (x ∷ d) n h = omega arith

      low_at : (t : Bool) → length (cond t low []) ≤ 1
      low_at true = low-short
      low_at false = omega arith

      cell_short : (a b : Element) (last : Bool) (both one other : List ℕ) (k : ℕ) → suc (length both) ≤ k → length one ≤ k → length other ≤ k →
          (is_all a ≡ false → b ≡ all → suc (length one) ≤ k) → (a ≡ all → is_all b ≡ false → suc (length other) ≤ k) →
          length (best_with order low (firsts_of F test a b last) both one other) ≤ k
      unfolding best_with firsts_of firsts_at
      cell_short a b last both one other k g h i front_one front_other = go (is_all a) (is_all b) (common_frame F a b) refl refl
        where
          go : (s t : Bool) (u : List ℕ) → is_all a ≡ s → is_all b ≡ t → length (best_with order low (firsts_at test s t u last) both one other) ≤ k
          go true true u e f =
              better_or (λ u. length u ≤ k) (better order one other) (cond last low []) (better_or (λ u. length u ≤ k) one other h i) (omega (arith, low_at last))
          go true false [] e f = omega arith
          go true false (x ∷ u) e f =
              better_or (λ u. length u ≤ k) one (in_front (test x && last) x other) h (front_short (test x && last) x other k (front_other (is_all_lem a e) f))
          go false true [] e f = omega arith
          go false true (x ∷ u) e f =
              better_or (λ u. length u ≤ k) other (in_front (test x && last) x one) i (front_short (test x && last) x one k (front_one e (is_all_lem b f)))
          go false false [] e f = omega arith
          go false false (x ∷ u) e f = front_short (test x && last) x both k g

      all_not_single : {A : Type 0} → is_all all ≡ false → A
      unfolding is_all
      all_not_single e = absurd (false≢true (sym e))

      -- a pattern of one element, beside another
      none_other : (P : List Element) → length (best_by F order test low P []) ≤ 0
      unfolding best_by row
      none_other [] = omega arith
      none_other (a ∷ P) = omega arith

      other_of_one : (e : Element) (P : List Element) → length (best_by F order test low P (e ∷ [])) ≤ length P
      unfolding best_by row
      other_of_one e [] = omega arith
      other_of_one e (a ∷ P) =
          let none = none_other P in
          let so_far = other_of_one e P in
          cell_short a e (end P []) _ _ _ (suc (length P)) (omega arith) (omega arith) (omega arith) (λ h i. omega arith) (λ h i. omega arith)

      one_next : (e b : Element) (Q : List Element) (k : ℕ) → 1 ≤ k → length (best_by F order test low (e ∷ []) Q) ≤ k
          → (e ≡ all → is_all b ≡ false → suc (length (best_by F order test low (e ∷ []) Q)) ≤ k)
          → length (best_by F order test low (e ∷ []) (b ∷ Q)) ≤ k
      unfolding best_by row
      one_next e b Q k h i front = cell_short e b (end [] Q) _ _ _ k (omega arith) (omega arith) i (λ x y. omega arith) front

      one_of_one : (e : Element) (Q : List Element) → length (best_by F order test low (e ∷ []) Q) ≤ length Q
      unfolding best_by row
      one_of_one e [] = omega arith
      one_of_one e (b ∷ Q) = let so_far = one_of_one e Q in one_next e b Q (suc (length Q)) (omega arith) (omega arith) (λ x y. omega arith)

      -- at most one element, beside a pattern that begins with `all`
      other_few : (P Q : List Element) → length Q ≤ 1 → (k : ℕ) → length P ≤ k → length Q ≤ k → length (best_by F order test low (all ∷ P) Q) ≤ k
      unfolding best_by row
      other_few P [] few k h i = omega arith
      other_few P (e ∷ []) few k h i =
          let none = none_other P in
          let so_far = other_of_one e P in
          cell_short all e (end P []) _ _ _ k (omega arith) (omega arith) (omega arith) (λ x y. all_not_single x) (λ x y. omega arith)
      other_few P (e ∷ e' ∷ Q) few k h i = absurd (omega arith)

      one_few : (P Q : List Element) → length P ≤ 1 → (k : ℕ) → length P ≤ k → length Q ≤ k → length (best_by F order test low P (all ∷ Q)) ≤ k
      unfolding best_by
      one_few [] Q few k h i = omega arith
      one_few (e ∷ []) Q few k h i = let so_far = one_of_one e Q in one_next e all Q k h (omega arith) (λ x y. all_not_single y)
      one_few (e ∷ e' ∷ P) Q few k h i = absurd (omega arith)

      -- u has no more frames than the greatest of m, n and m + n - 2
      abbrev Few : ℕ → ℕ → List ℕ → Type 0
      Few m n u = (k : ℕ) → m ≤ k → n ≤ k → m + n ≤ k + 2 → length u ≤ k

      -- one element more, where what is said of the rests is `below` and `before`
      module _ (a b : Element) (P Q : List Element) (below : (Q : List Element) → Few (length P) (length Q) (best_by F order test low P Q))
          (before : Few (suc (length P)) (length Q) (best_by F order test low (a ∷ P) Q)) where
        front_one : (k : ℕ) → length P ≤ k → length Q ≤ k → length P + length Q ≤ k + 1 → b ≡ all → suc (length (best_by F order test low P (b ∷ Q))) ≤ suc k
        front_one k h i s e =
            rw e
            (suc-le-suc
            (⊎_elim (λ l. below (all ∷ Q) k h l (omega arith)) (λ l. one_few P Q (omega arith) k h i) (le_or_lt (suc (length Q)) k)))

        front_other : (k : ℕ) → length P ≤ k → length Q ≤ k → length P + length Q ≤ k + 1 → a ≡ all → suc (length (best_by F order test low (a ∷ P) Q)) ≤ suc k
        front_other k h i s e = suc-le-suc (⊎_elim (λ l. before k l i (omega arith)) (λ l. rw e (other_few P Q (omega arith) k h i)) (le_or_lt (suc (length P)) k))

        more_short : Few (suc (length P)) (suc (length Q)) (best_by F order test low (a ∷ P) (b ∷ Q))
        unfolding row best_by
        more_short zero h i s = absurd (omega arith)
        more_short (suc k) h i s =
            cell_short a b (end P Q) _ _ _ (suc k) (suc-le-suc (below Q k (omega arith) (omega arith) (omega arith))) (below (b ∷ Q) (suc k) (omega arith) i (omega arith))
            (before (suc k) h (omega arith) (omega arith))
            (λ x y. front_one k (omega arith) (omega arith) (omega arith) y)
            (λ x y. front_other k (omega arith) (omega arith) (omega arith) x)

      row_short : (a : Element) (P : List Element) → ((Q : List Element) → Few (length P) (length Q) (best_by F order test low P Q)) → (Q : List Element) →
          Few (suc (length P)) (length Q) (best_by F order test low (a ∷ P) Q)
      unfolding row best_by
      row_short a P below [] k h i s = omega arith
      row_short a P below (b ∷ Q) k h i s = more_short a b P Q below (row_short a P below Q) k h i s

      pub short : (P Q : List Element) → Few (length P) (length Q) (best_by F order test low P Q)
      unfolding best_by
      short [] Q k h i s = omega arith
      short (a ∷ P) Q k h i s = row_short a P (short P) Q k h i s

    -- ---- complete: where the patterns meet a stack is found; and least: no other comes before it
    module _ (Le : List ℕ → List ℕ → Type 0)
        (chain : (u v w : List ℕ) → Le u v → Le v w → Le u w)
        (order-true : (u v : List ℕ) → order u v ≡ true → Le u v)
        (order-false : (u v : List ℕ) → order u v ≡ false → Le v u)
        (in-front : (a : ℕ) (u w : List ℕ) → Le u w → Le (a ∷ u) (a ∷ w))
        (alone : (a : ℕ) (w : List ℕ) → Le (a ∷ []) (a ∷ w))
        (longer : (x : ℕ) (w : List ℕ) → Le w (x ∷ w))
        (lower : (x y : ℕ) (w : List ℕ) → x ≤ y → Le (x ∷ w) (y ∷ w))
        (alike : (d x y : ℕ) → lies_in F d x ≡ true → lies_in F d y ≡ true → test y ≡ true → test x ≡ true)
        (low_least : (x : ℕ) → test x ≡ true → Some low × (Le low (x ∷ []))) where
      unfoldable pub AtMost : List ℕ → List ℕ → Type 0
      AtMost u w = Some u × (Le u w)

      -- u is a stack, and none that P and Q meet in comes before it
      abbrev Least : List Element → List Element → List ℕ → Type 0
      Least P Q u = (w : List ℕ) → Meet F test P Q w → AtMost u w

      cons_not_nil : {x : ℕ} {w : List ℕ} → x ∷ w ≡ [] → ⊥
      cons_not_nil {x} {w} e = let z : ◌≡◌ {A = ℕ} 0 1 = cc in omega arith

      better_left : (u v w : List ℕ) → AtMost u w → AtMost (better order u v) w
      unfolding better AtMost
      better_left [] v w h = absurd h.0
      better_left (x ∷ u) [] w h = h
      better_left (x ∷ u) (y ∷ v) w h = choose (order (x ∷ u) (y ∷ v)) refl
        where
          choose : (t : Bool) → order (x ∷ u) (y ∷ v) ≡ t → AtMost (cond t (x ∷ u) (y ∷ v)) w
          choose true e = h
          choose false e = (tt, chain (y ∷ v) (x ∷ u) w (order-false (x ∷ u) (y ∷ v) e) h.1)

      better_right : (u v w : List ℕ) → AtMost v w → AtMost (better order u v) w
      unfolding better AtMost
      better_right [] v w h = h
      better_right (x ∷ u) [] w h = absurd h.0
      better_right (x ∷ u) (y ∷ v) w h = choose (order (x ∷ u) (y ∷ v)) refl
        where
          choose : (t : Bool) → order (x ∷ u) (y ∷ v) ≡ t → AtMost (cond t (x ∷ u) (y ∷ v)) w
          choose true e = (tt, chain (x ∷ u) (y ∷ v) w (order-true (x ∷ u) (y ∷ v) e) h.1)
          choose false e = h

      least_front : (t : Bool) (a : ℕ) (d w : List ℕ) → (w ≡ [] → t ≡ true) → (Some w → AtMost d w) → AtMost (in_front t a d) (a ∷ w)
      unfolding in_front AtMost
      least_front true a d w e h = (tt, alone a w)
      least_front false a d [] e h = absurd (false≢true (e refl))
      least_front false a [] (y ∷ w) e h = absurd (h tt).0
      least_front false a (x ∷ d) (y ∷ w) e h = (tt, in-front a (x ∷ d) (y ∷ w) (h tt).1)

      -- x in front of a stack that p and q match with a frame y below it that x can stand for
      module _ (x y : ℕ) (stands : StandsFor F test y x) where
        lowered : (u w : List ℕ) → AtMost u (x ∷ w) → AtMost u (y ∷ w)
        unfolding AtMost
        lowered u w h = (h.0, chain u (x ∷ w) (y ∷ w) h.1 (lower x y w stands.0))

        least_eat : (p q : List Element) (d w : List ℕ) → Least p q d → matches F p w ≡ true → matches F q w ≡ true → top_passes test (y ∷ w) ≡ true →
            AtMost (in_front (test x && end p q) x d) (y ∷ w)
        least_eat p q d [] ih m n h =
            lowered (in_front (test x && end p q) x d) []
            (least_front (test x && end p q) x d []
            (λ _. both_true (test x) (end p q) (stands.1 (sym (top_one test y) ∙ h)) (both_true (matches F p []) (matches F q []) m n))
            (λ s. absurd s))
        least_eat p q d (z ∷ w) ih m n h =
            lowered (in_front (test x && end p q) x d) (z ∷ w)
            (least_front (test x && end p q) x d (z ∷ w) (λ e. absurd (cons_not_nil e))
            (λ _. ih (z ∷ w) (record { one = m; other = n; top = sym (top_more test y z w) ∙ h })))

      -- two patterns that begin with `all`
      module _ (P Q : List Element) (one other : List ℕ) (h : Least P (all ∷ Q) one) (k : Least (all ∷ P) Q other) where
        abbrev cell : List ℕ
        cell = better order (better order one other) (cond (end P Q) low [])

        one_drops : (w : List ℕ) → Meet F test (all ∷ P) (all ∷ Q) w → matches F P w ≡ true → AtMost cell w
        one_drops w c m =
            better_left (better order one other) (cond (end P Q) low []) w
            (better_left one other w (h w (record { one = m; other = c.other; top = c.top })))

        other_drops : (w : List ℕ) → Meet F test (all ∷ P) (all ∷ Q) w → matches F Q w ≡ true → AtMost cell w
        other_drops w c n =
            better_left (better order one other) (cond (end P Q) low []) w
            (better_right one other w (k w (record { one = c.one; other = n; top = c.top })))

        -- both take the only frame
        both_take : (x : ℕ) → test x ≡ true → matches F P [] ≡ true → matches F Q [] ≡ true → AtMost cell (x ∷ [])
        unfolding AtMost
        both_take x t m n =
            better_right (better order one other) (cond (end P Q) low []) (x ∷ [])
            (rw (both_true (matches F P []) (matches F Q []) m n) (low_least x t))

        least_both : Least (all ∷ P) (all ∷ Q) cell
        unfolding AtMost
        least_both [] c = absurd (top_none test c.top)
        least_both (x ∷ []) c =
            ⊎_elim (λ m. one_drops (x ∷ []) c m)
            (λ m. ⊎_elim (λ n. other_drops (x ∷ []) c n)
            (λ n. both_take x (sym (top_one test x) ∙ c.top) (sym (all_none F P) ∙ m) (sym (all_none F Q) ∙ n))
            (all_split F x Q [] c.other))
            (all_split F x P [] c.one)
        least_both (x ∷ y ∷ w) c =
            let again : Meet F test (all ∷ P) (all ∷ Q) (y ∷ w) → AtMost cell (y ∷ w) = least_both (y ∷ w) in
            ⊎_elim (λ m. one_drops (x ∷ y ∷ w) c m)
            (λ m. ⊎_elim (λ n. other_drops (x ∷ y ∷ w) c n)
            (λ n.
            let r = again (record { one = m; other = n; top = sym (top_more test x y w) ∙ c.top }) in
            (r.0, chain cell (y ∷ w) (x ∷ y ∷ w) r.1 (longer x (y ∷ w))))
            (all_split F x Q (y ∷ w) c.other))
            (all_split F x P (y ∷ w) c.one)

      -- one that begins with `all`, and one with another element, x the lowest frame that this meets
      module _ (P Q : List Element) (e : Element) (x : ℕ) (single : is_all e ≡ false) (lowest : (y : ℕ) → meets_frame F e y ≡ true → StandsFor F test y x) (one other : List ℕ) where
        least_one_all : Least P (e ∷ Q) one → Least (all ∷ P) Q other → Least (all ∷ P) (e ∷ Q) (better order one (in_front (test x && end P Q) x other))
        least_one_all h k [] c = absurd (top_none test c.top)
        least_one_all h k (y ∷ w) c =
            let d = single_split F e y Q w single c.other in
            let s : List ℕ = in_front (test x && end P Q) x other in
            ⊎_elim (λ m. better_left one s (y ∷ w) (h (y ∷ w) (record { one = m; other = c.other; top = c.top })))
            (λ m. better_right one s (y ∷ w) (rw (← (all_none F P)) (least_eat x y (lowest y d.0) (all ∷ P) Q other w k m d.1 c.top)))
            (all_split F y P w c.one)

        least_other_all : Least P (all ∷ Q) one → Least (e ∷ P) Q other → Least (e ∷ P) (all ∷ Q) (better order other (in_front (test x && end P Q) x one))
        least_other_all h k [] c = absurd (top_none test c.top)
        least_other_all h k (y ∷ w) c =
            let d = single_split F e y P w single c.one in
            let s : List ℕ = in_front (test x && end P Q) x one in
            ⊎_elim (λ n. better_left other s (y ∷ w) (k (y ∷ w) (record { one = c.one; other = n; top = c.top })))
            (λ n. better_right other s (y ∷ w) (rw (← (all_none F Q)) (least_eat x y (lowest y d.0) P (all ∷ Q) one w h d.1 n c.top)))
            (all_split F y Q w c.other)

      -- two other elements, x the lowest frame that both meet
      module _ (P Q : List Element) (a b : Element) where
        least_same : (x : ℕ) (both : List ℕ) → is_all a ≡ false → is_all b ≡ false → ((y : ℕ) → Met F a b y → StandsFor F test y x) → Least P Q both →
            Least (a ∷ P) (b ∷ Q) (in_front (test x && end P Q) x both)
        least_same x both e f lowest g [] c = absurd (top_none test c.top)
        least_same x both e f lowest g (y ∷ w) c =
            let d = single_split F a y P w e c.one in
            let i = single_split F b y Q w f c.other in
            least_eat x y (lowest y (d.0, i.0)) P Q both w g d.1 i.1 c.top

        -- and none where no frame meets both
        least_apart : (is_all a && is_all b) ≡ false → common_frame F a b ≡ [] → Least (a ∷ P) (b ∷ Q) []
        least_apart n e [] c = absurd (top_none test c.top)
        least_apart n e (y ∷ w) c = absurd (none_common F a b n e y (base_met F a y P w c.one, base_met F b y Q w c.other))

      least_cell : (a b : Element) (P Q : List Element) (both one other : List ℕ) → Least P Q both → Least P (b ∷ Q) one → Least (a ∷ P) Q other →
          Least (a ∷ P) (b ∷ Q) (best_with order low (firsts_of F test a b (end P Q)) both one other)
      unfolding best_with firsts_of firsts_at
      least_cell a b P Q both one other g h k = go (is_all a) (is_all b) (common_frame F a b) refl refl refl
        where
          stands : (is_all a && is_all b) ≡ false → (x : ℕ) (u : List ℕ) → common_frame F a b ≡ x ∷ u → (y : ℕ) → Met F a b y → StandsFor F test y x
          stands n x u c y m = rw c at (common_stands F test alike y a b n m.0 m.1)

          go : (s t : Bool) (u : List ℕ) → is_all a ≡ s → is_all b ≡ t → common_frame F a b ≡ u →
              Least (a ∷ P) (b ∷ Q) (best_with order low (firsts_at test s t u (end P Q)) both one other)
          go true true u e f c = rw (is_all_lem a e, is_all_lem b f) (least_both P Q one other (rw (is_all_lem b f) at h) (rw (is_all_lem a e) at k))
          go true false [] e f c = least_apart P Q a b (rw (e, f)) c
          go true false (x ∷ u) e f c =
              rw (is_all_lem a e) (least_one_all P Q b x f (λ y m. stands (rw (e, f)) x u c y (all_meets F a y e, m)) one other h (rw (is_all_lem a e) at k))
          go false true [] e f c = least_apart P Q a b (rw e) c
          go false true (x ∷ u) e f c =
              rw (is_all_lem b f) (least_other_all P Q a x e (λ y m. stands (rw e) x u c y (m, all_meets F b y f)) one other (rw (is_all_lem b f) at h) k)
          go false false [] e f c = least_apart P Q a b (rw e) c
          go false false (x ∷ u) e f c = least_same P Q a b x both e f (stands (rw e) x u c) g

      least_row : (a : Element) (P : List Element) → ((Q : List Element) → Least P Q (best_by F order test low P Q)) → (Q : List Element) →
          Least (a ∷ P) Q (row F order test low a (matches F P []) (best_by F order test low P) Q)
      unfolding row
      least_row a P ih [] w c = no_meeting test F w c.other c.top
      least_row a P ih (b ∷ Q) w c = least_cell a b P Q _ _ _ (ih Q) (ih (b ∷ Q)) (least_row a P ih Q) w c

      pub least : (P Q : List Element) → Least P Q (best_by F order test low P Q)
      unfolding best_by
      least [] Q w c = no_meeting test F w c.one c.top
      least (a ∷ P) Q w c = least_row a P (least P) Q w c
