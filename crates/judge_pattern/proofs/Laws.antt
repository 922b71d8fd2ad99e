-- What each step of the code shows, of a pattern and a stack and of what is left of them.
use Prim.Native.Nat.{ℕ, suc, ◌+◌, ◌-◌, ◌<◌, ◌≤◌}
use native.Mathlib.Omega.{arith}
use mathlib.Core.Path.{◌≡◌, refl, sym, ◌∙◌}
use mathlib.Core.Bool.{Bool, true, false, false≢true, not, cond, ◌&&◌}
use mathlib.Core.List.{List, [], ◌∷◌, map}
use lib.ListN.{length, take, drop, get_or, drop_of_length-le}
use lib.Seq.{take-length}
use Rattle.std.proofs.Common.{length-drop, get_or-drop, add-zero}
use lib.Dec.{eqb, ltb}
use borrow.Author.Tests.{lt-ltb, le-ltb, eqb-true, eqb-false, ltb-false, not-false}
use Rattle.std.specs.Borrow.{Bor}
use Rattle.std.proofs.lemmas.List.Quantifiers.{position-Some}
use Rattle.std.specs.Prelude.{Some, None, position}
use Rattle.std.specs.List.{IsFirstAndRest, position_or_len, list_all}
use Rattle.paper.specs.Common.{all_of}
use Rattle.paper.specs.Table.{first_domain_word, element_in}
use Rattle.paper.specs.Match.{lies_in, first_meets, matches, is_all}
use Rattle.laws.specs.Frames.{meets_frame}
use Rattle.laws.proofs.Chains.{tested_false, tested_true}
use Rattle.laws.proofs.Elements.{all_takes, word_function, word_domain, word_single, single_matches}
use Rattle.judge_pattern.specs.Run.{matches_words, matches_later, FitsToAll, Says}
use Rattle.judge_pattern.specs.declared.Run.{Run}
use Rattle.judge_pattern.specs.declared.Run.TheVariants.{Match, Fail, Never, All}
use Rattle.judge_pattern.proofs.Lists.{nothing_in, empty_needs_none, all_refuses, all_swallows, all_alone, alls_as_one, later_at_end, later_refuses}

-- ---- an element that is not `all`, and a frame

module _ (F : List ℕ) (w x : ℕ) where
  pub function_decides : (w ≡ 0 → ⊥) → w < first_domain_word → eqb (w - 1) x ≡ meets_frame F (element_in w) x
  unfolding meets_frame
  function_decides n h = rw (word_function w n h)

  pub unlisted_in_none : first_domain_word ≤ w → length F ≤ x → false ≡ meets_frame F (element_in w) x
  unfolding meets_frame lies_in
  unlisted_in_none h l = rw (word_domain w h, le-ltb x (length F) l)

  pub domain_decides : first_domain_word ≤ w → x < length F → eqb (get_or F x 0) (w - first_domain_word) ≡ meets_frame F (element_in w) x
  unfolding meets_frame lies_in
  domain_decides h l = rw (word_domain w h, lt-ltb x (length F) l)

-- ---- a run up to an `all`

-- elements and frames from the front fit: what is left of both decides
pub record Fits (F p s q t : List ℕ) : Type 0 where
  pub shorter : length q ≤ length p
  pub no_longer : length t ≤ length s
  pub decides : matches_words F p s ≡ matches_words F q t
  pub never : matches_later F q t ≡ false → matches_later F p s ≡ false

module _ (F p s : List ℕ) where
  pub fits_nothing : Fits F p s p s
  fits_nothing = record { shorter = omega arith; no_longer = omega arith; decides = refl; never = λ e. e }

  module _ (q t : List ℕ) (fits : Fits F p s q t) where
    pub both_end : length q ≡ 0 → length t ≡ 0 → matches_words F p s ≡ true
    unfolding matches
    both_end h k = fits.decides ∙ rw (nothing_in q h, nothing_in t k)

    pub frames_left : length q ≡ 0 → (length t ≡ 0 → ⊥) → matches_words F p s ≡ false
    frames_left h k = fits.decides ∙ rw (nothing_in q h) (empty_needs_none F t k)

    -- at an element
    module _ (w : ℕ) (rest : List ℕ) (first : IsFirstAndRest q w rest) where
      all_first : w ≡ 0 → matches_words F q t ≡ matches_later F rest t
      unfolding element_in
      all_first e = rw (first.0, e) refl

      later_first : w ≡ 0 → matches_later F q t ≡ matches_later F rest t
      unfolding element_in
      later_first e = rw (first.0, e) (alls_as_one F (map element_in rest) t)

      fits_all : w ≡ 0 → matches_later F p s ≡ matches_later F rest t
      fits_all e = go (matches_later F rest t) refl
        where
          go : (b : Bool) → matches_later F rest t ≡ b → matches_later F p s ≡ b
          go true k = all_takes F (map element_in p) s (fits.decides ∙ (all_first e ∙ k))
          go false k = fits.never (later_first e ∙ k)

      pub reaches_all : w ≡ 0 → FitsToAll F p s rest t
      reaches_all e =
          let l : length rest + 1 ≡ length q = first.1 in
          let m : length q ≤ length p = fits.shorter in
          record { shorter = omega arith; no_longer = fits.no_longer; decides = fits.decides ∙ all_first e; decides_later = fits_all e }

      -- one that is not `all`
      module _ (n : w ≡ 0 → ⊥) where
        pub frames_end : length t ≡ 0 → matches_later F p s ≡ false
        frames_end k = fits.never (rw (first.0, nothing_in t k) (later_at_end F (element_in w) (word_single w n) (map element_in rest)))

        module _ (x : ℕ) (above : List ℕ) (frame : IsFirstAndRest t x above) (r : Bool) (told : r ≡ meets_frame F (element_in w) x) where
          pub frame_differs : not r ≡ true → matches_words F p s ≡ false
          unfolding first_meets
          frame_differs d =
              fits.decides ∙ rw (first.0, frame.0) (single_matches F (element_in w) (map element_in rest) (x ∷ above) (word_single w n) ∙ rw (tested_false _ r told d))

          pub frame_fits : not r ≡ false → Fits F p s rest above
          unfolding first_meets
          frame_fits d =
              let l : length rest + 1 ≡ length q = first.1 in
              let m : length q ≤ length p = fits.shorter in
              let i : length above + 1 ≡ length t = frame.1 in
              let j : length t ≤ length s = fits.no_longer in
              record {
                shorter = omega arith;
                no_longer = omega arith;
                decides = fits.decides ∙ rw (first.0, frame.0) (single_matches F (element_in w) (map element_in rest) (x ∷ above) (word_single w n) ∙ rw (tested_true _ r told d));
                never = λ m. fits.never (rw (first.0, frame.0) (later_refuses F (element_in w) (word_single w n) (map element_in rest) x above m));
              }

-- ---- what comes of a run up to an `all`

module _ (F p s : List ℕ) (r : Run) (says : Says r F p s) where
  pub front_matches : r ≡ Match → true ≡ matches_words F p s
  front_matches e = sym (rw e at says)

  pub front_fails : r ≡ Fail → false ≡ matches_words F p s
  front_fails e = sym (rw e at says)

  pub front_never : r ≡ Never → false ≡ matches_words F p s
  front_never e = sym (all_refuses F (map element_in p) s (rw e at says))

  pub front_all : (q t : Bor (List ℕ)) → r ≡ All q t → FitsToAll F p s q.now t.now
  front_all q t e = rw e at says

-- what stands from a place on, as the code takes it
rest_from : (xs : List ℕ) (n : ℕ) → take (length xs - n) (drop n xs) ≡ drop n xs
rest_from xs n = rw (← length-drop n xs) (take-length (drop n xs))

-- ---- behind an `all`: other `all`s, and the frames that it may swallow

module _ (test : ℕ → Bool) where
  found_at : (xs : List ℕ) (n : ℕ) → position test xs ≡ Some n → position_or_len test xs ≡ n
  found_at xs n e = go (ltb (position_or_len test xs) (length xs)) e
    where
      go : (b : Bool) → cond b (Some (position_or_len test xs)) None ≡ Some n → position_or_len test xs ≡ n
      go true h = cc
      go false h = cc

  none_left : (xs : List ℕ) → position test xs ≡ None → length xs ≤ position_or_len test xs
  none_left xs e = go (ltb (position_or_len test xs) (length xs)) refl e
    where
      go : (b : Bool) → ltb (position_or_len test xs) (length xs) ≡ b → cond b (Some (position_or_len test xs)) None ≡ None → length xs ≤ position_or_len test xs
      go true k h = cc
      go false k h = ltb-false _ _ k

-- behind an `all`, the pattern q, which begins with an element that is not `all`, and the frames t decide
pub record Begins (F p s q t : List ℕ) : Type 0 where
  pub some : 0 < length q
  pub no_longer : length q ≤ length p
  pub single : get_or q 0 0 ≡ 0 → ⊥
  pub below : length t ≤ length s
  pub decides : matches_later F p s ≡ matches_later F q t

-- where `whole` of a list is that of the list without its first elements as long as these fail the test
module _ (test : ℕ → Bool) (whole : List ℕ → Bool) (passes : (x : ℕ) (xs : List ℕ) → test x ≡ false → whole (x ∷ xs) ≡ whole xs) where
  passed_over : (xs : List ℕ) → whole xs ≡ whole (drop (position_or_len test xs) xs)
  passed_over [] = refl
  passed_over (x ∷ xs) = go (test x) refl (passed_over xs)
    where
      go : (b : Bool) → test x ≡ b → whole xs ≡ whole (drop (position_or_len test xs) xs) → whole (x ∷ xs) ≡ whole (drop (cond (not b) (1 + position_or_len test xs) 0) (x ∷ xs))
      go true e rest = refl
      go false e rest = let one : 1 + position_or_len test xs ≡ suc (position_or_len test xs) = omega arith in passes x xs e ∙ (rest ∙ rw one refl)

  pub up_to_found : (xs : List ℕ) (n : ℕ) → position test xs ≡ Some n → whole xs ≡ whole (drop n xs)
  up_to_found xs n e = rw (found_at test xs n e) at (passed_over xs)

  pub none_found : (xs : List ℕ) → position test xs ≡ None → whole xs ≡ whole []
  none_found xs e = passed_over xs ∙ rw (drop_of_length-le xs (none_left test xs e)) refl

module _ (F s : List ℕ) where
  all_passed : (w : ℕ) (p : List ℕ) → not (eqb w 0) ≡ false → matches_later F (w ∷ p) s ≡ matches_later F p s
  unfolding element_in
  all_passed w p h = rw (eqb-true w 0 (not-false (eqb w 0) h)) (alls_as_one F (map element_in p) s)

  pub nothing_but_all : (p : List ℕ) → None ≡ position (λ w. not (eqb w 0)) p → true ≡ matches_later F p s
  nothing_but_all p e = sym (none_found (λ w. not (eqb w 0)) (λ q. matches_later F q s) all_passed p (sym e) ∙ all_alone F s)

  -- n `all`s are passed over
  module _ (p : List ℕ) (n : ℕ) (e : Some n ≡ position (λ w. not (eqb w 0)) p) where
    abbrev left : List ℕ
    left = take (length p - n) (drop n p)

    all_left : left ≡ drop n p
    all_left = rest_from p n

    first_left : get_or left 0 0 ≡ get_or p n 0
    first_left = rw all_left (get_or-drop n p 0 0 ∙ rw (add-zero n) refl)

    stops : get_or left 0 0 ≡ 0 → ⊥
    stops z =
        let told : not (eqb (get_or p n 0) 0) ≡ true = (position-Some (λ w. not (eqb w 0)) p n 0 (sym e)).1 in
        let zero : get_or p n 0 ≡ 0 = sym first_left ∙ z in
        false≢true (rw zero at told)

    pub behind_alls : Begins F p s left s
    behind_alls =
        let l : n < length p = (position-Some (λ w. not (eqb w 0)) p n 0 (sym e)).0 in
        let m : length left ≡ length p - n = rw all_left (length-drop n p) in
        record {
          some = omega arith;
          no_longer = omega arith;
          single = stops;
          below = omega arith;
          decides = rw all_left (up_to_found (λ w. not (eqb w 0)) (λ q. matches_later F q s) all_passed p n (sym e));
        }

-- a pattern that begins with an element that is not `all`
module _ (F : List ℕ) (w : ℕ) (p : List ℕ) (n : w ≡ 0 → ⊥) where
  frame_swallowed : (x : ℕ) (t : List ℕ) → meets_frame F (element_in w) x ≡ false → matches_later F (w ∷ p) (x ∷ t) ≡ matches_later F (w ∷ p) t
  unfolding first_meets
  frame_swallowed x t d =
      all_swallows F (map element_in (w ∷ p)) x t (single_matches F (element_in w) (map element_in p) (x ∷ t) (word_single w n) ∙ rw d)

  none_meets : (t : List ℕ) → position (meets_frame F (element_in w)) t ≡ None → matches_later F (w ∷ p) t ≡ false
  none_meets t e =
      none_found (meets_frame F (element_in w)) (matches_later F (w ∷ p)) frame_swallowed t e ∙ later_at_end F (element_in w) (word_single w n) (map element_in p)

  up_to_meeting : (t : List ℕ) (k : ℕ) → position (meets_frame F (element_in w)) t ≡ Some k → matches_later F (w ∷ p) t ≡ matches_later F (w ∷ p) (drop k t)
  up_to_meeting t k e = up_to_found (meets_frame F (element_in w)) (matches_later F (w ∷ p)) frame_swallowed t k e

module _ (F p s : List ℕ) where
  module _ (t : List ℕ) where
    pub none_left_meets : (q : List ℕ) → Begins F p s q t → None ≡ position (meets_frame F (element_in (get_or q 0 0))) t → false ≡ matches_later F p s
    none_left_meets [] inv e = absurd (let h : 0 < 0 = inv.some in omega arith)
    none_left_meets (w ∷ q) inv e = sym (inv.decides ∙ none_meets F w q inv.single t (sym e))

    module _ (k : ℕ) where
      met_in_stack : (q : List ℕ) → Some k ≡ position (meets_frame F (element_in (get_or q 0 0))) t → k < length t
      met_in_stack q e = (position-Some (meets_frame F (element_in (get_or q 0 0))) t k 0 (sym e)).0

      pub meeting_in_stack : (q : List ℕ) → Begins F p s q t → Some k ≡ position (meets_frame F (element_in (get_or q 0 0))) t → k < length s
      meeting_in_stack q inv e =
          let l : k < length t = met_in_stack q e in
          let m : length t ≤ length s = inv.below in
          omega arith

      at_drop : (q : List ℕ) → Begins F p s q t → Some k ≡ position (meets_frame F (element_in (get_or q 0 0))) t → Begins F p s q (drop k t)
      at_drop [] inv e = absurd (let h : 0 < 0 = inv.some in omega arith)
      at_drop (w ∷ q) inv e =
          let l : length t ≤ length s = inv.below in
          let m : length (drop k t) ≡ length t - k = length-drop k t in
          record { some = inv.some; no_longer = inv.no_longer; single = inv.single; below = omega arith; decides = inv.decides ∙ up_to_meeting F w q inv.single t k (sym e) }

      pub left_at_meeting : (q : List ℕ) → Begins F p s q t → Some k ≡ position (meets_frame F (element_in (get_or q 0 0))) t → 0 < length (take (length t - k) (drop k t))
      left_at_meeting q inv e =
          let l : k < length t = met_in_stack q e in
          let m : length (drop k t) ≡ length t - k = length-drop k t in
          rw (rest_from t k, m) (omega arith)

      pub at_meeting : (q : List ℕ) → Begins F p s q t → Some k ≡ position (meets_frame F (element_in (get_or q 0 0))) t
          → Begins F p s q (take (length t - k) (drop k t))
      at_meeting q inv e = rw (rest_from t k) (at_drop q inv e)

  swallowed : {q : List ℕ} (t : List ℕ) → 0 < length t → Begins F p s q t → matches_words F q t ≡ false → Begins F p s q (take (length t - 1) (drop 1 t))
  swallowed [] l inv fails = absurd (omega arith)
  swallowed {q} (x ∷ t) l inv fails =
      let left : matches_later F p s ≡ matches_later F q t = inv.decides ∙ all_swallows F (map element_in q) x t fails in
      let m : suc (length t) ≤ length s = inv.below in
      rw (rest_from (x ∷ t) 1) (record { some = inv.some; no_longer = inv.no_longer; single = inv.single; below = omega arith; decides = left })

  -- what a run up to an `all` says there
  module _ (q t : List ℕ) (inv : Begins F p s q t) (r : Run) (says : Says r F q t) where
    pub walk_matches : r ≡ Match → true ≡ matches_later F p s
    walk_matches e = sym (inv.decides ∙ all_takes F (map element_in q) t (rw e at says))

    pub walk_never : r ≡ Never → false ≡ matches_later F p s
    walk_never e = sym (inv.decides ∙ (rw e at says))

    pub walk_swallows : r ≡ Fail → 0 < length t → Begins F p s q (take (length t - 1) (drop 1 t))
    walk_swallows e l = swallowed t l inv (rw e at says)

    module _ (rest frames : Bor (List ℕ)) (e : r ≡ All rest frames) where
      pub walk_falls : (m : ℕ) → length p ≡ m → length rest.now < m
      walk_falls m h =
          let l : length rest.now < length q = (front_all F q t r says rest frames e).shorter in
          let k : length q ≤ length p = inv.no_longer in
          omega arith

      pub walk_all : (b : Bool) → b ≡ matches_later F rest.now frames.now → b ≡ matches_later F p s
      walk_all b h = h ∙ sym (inv.decides ∙ (front_all F q t r says rest frames e).decides_later)

-- ---- every element is `all`

pub alls_told : (p : List ℕ) → list_all (λ w. eqb w 0) p ≡ all_of is_all (map element_in p)
unfolding all_of is_all element_in
alls_told [] = refl
alls_told (w ∷ p) = go (eqb w 0) refl (alls_told p)
  where
    go : (b : Bool) → eqb w 0 ≡ b → list_all (λ v. eqb v 0) p ≡ all_of is_all (map element_in p)
        → (b && list_all (λ v. eqb v 0) p) ≡ (is_all (element_in w) && all_of is_all (map element_in p))
    go true e rest = rw (eqb-true w 0 e) rest
    go false e rest = rw (word_single w (eqb-false w 0 e))
