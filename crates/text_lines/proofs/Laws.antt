-- One line of a text, and one byte of a line.
use mathlib.Core.Path.{◌≡◌, refl, sym, ap, ◌∙◌}
use Rattle.std.specs.Prelude.{Option, Some, None}
use mathlib.Core.Bool.{Bool, true, false, cond, not, ◌&&◌, ◌||◌, and_assoc, and-true, false≢true}
use mathlib.Core.List.{List, [], ◌∷◌}
use Prim.Native.Nat.{ℕ, zero, suc, ◌+◌, ◌-◌, ◌<◌, ◌≤◌}
use native.Mathlib.Nat.{not-suc-le-zero}
use native.Mathlib.Omega.{arith}
use lib.Dec.{eqb}
use lib.ListN.{length, get_or, take, drop, length-drop, drop_of_length-le}
use lib.Seq.{drop-length, get_or-drop}
use borrow.Author.Tests.{eqb-true, eqb-false, eq-eqb, ne_eqb, not-true, not-false}
use Rattle.paper.specs.Common.{within, all_of}
use Rattle.paper.specs.Text.{Line, next_byte, end_at, return_before_feed, lines_from, with_byte, on_line, column, skipped, may_stand, bad_byte_line}
use Rattle.laws.specs.Pieces.{before}
use Rattle.laws.specs.Standing.{all_stand}
use Rattle.laws.proofs.Pieces.{separator_at, piece_within, piece_short, piece_behind, piece_last}
use Rattle.laws.proofs.Places.{drop_more}
use Rattle.laws.proofs.Tests.{both_left, both_right, both_false}
use Rattle.laws.proofs.Standing.{feed_no_return, none_bad}
use Rattle.laws.proofs.Bytes.{find_again, find_here}
use Rattle.laws.proofs.Counting.{all_of_at}
use Rattle.text_lines.specs.Plain.{is_plain, line_if}
use Rattle.text_lines.specs.Splits.{Splits, goes_on, held_bytes}

-- ---- the way to the end of a line

pub both_are : (a b x y : Bool) → a ≡ x → b ≡ y → (a && b) ≡ (x && y)
both_are a b x y e f = rw (e, f) refl

module _ (t : List ℕ) (at : ℕ) where
  -- n bytes on, where none of them ends the line
  passed : (n i : ℕ) → i + before 10 (drop i t) ≡ at + before 10 (drop at t) → i + n ≤ length t → all_of goes_on (take n (drop i t)) ≡ true
      → i + n + before 10 (drop (i + n) t) ≡ at + before 10 (drop at t)
  unfolding all_of
  passed zero i inv h e = let z : i + 0 ≡ i = omega arith in rw z inv
  passed (suc n) i inv h e =
      let more : all_of goes_on (get_or t i 0 ∷ take n (drop (i + 1) t)) ≡ true = let k : i < length t = omega arith in rw (drop_more t i k) at e in
      let one : i + 1 + before 10 (drop (i + 1) t) ≡ at + before 10 (drop at t) =
      find_again 10 t at i inv (omega arith) (eqb-false (get_or t i 0) 10 (not-true (eqb (get_or t i 0) 10) (both_left (goes_on (get_or t i 0)) (all_of goes_on (take n (drop (i + 1) t))) more))) in
      let q : i + 1 + n ≡ i + suc n = omega arith in
      rw q at (passed n (i + 1) one (omega arith) (both_right (goes_on (get_or t i 0)) (all_of goes_on (take n (drop (i + 1) t))) more))

  pub sixteen_again : (i : ℕ) → i + before 10 (drop i t) ≡ at + before 10 (drop at t) → i + 16 ≤ length t → (r : Bool) → r ≡ all_of goes_on (take 16 (drop i t)) → not r ≡ false
      → i + 16 + before 10 (drop (i + 16) t) ≡ at + before 10 (drop at t)
  sixteen_again i inv h r e u = passed 16 i inv h (sym e ∙ not-false r u)

  pub past_passed : (n : ℕ) → at + n ≤ length t → (r : Bool) → r ≡ all_of goes_on (take n (drop at t)) → r ≡ true → at + n + before 10 (drop (at + n) t) ≡ at + before 10 (drop at t)
  past_passed n h r e u = passed n at refl h (sym e ∙ u)

  pub ends_here : at < length t → get_or t at 0 ≡ 10 → at ≡ at + before 10 (drop at t)
  ends_here h e = find_here 10 t at at refl h e

-- ---- the bytes that a line holds

-- the byte before LF, where LF ends the line; 0 where none stands before it on the line
abbrev before_feed : List ℕ → ℕ
before_feed xs = get_or (0 ∷ xs) (before 10 xs) 0

feeds_next : (bs : List ℕ) → eqb (next_byte bs) 10 ≡ true → before 10 bs ≡ 0
unfolding before
feeds_next [] e = refl
feeds_next (x ∷ xs) e = rw e refl

before_on : (b : ℕ) (bs : List ℕ) → eqb b 10 ≡ false → before 10 (b ∷ bs) ≡ suc (before 10 bs)
unfolding before
before_on b bs e = rw e refl

held_none : (xs : List ℕ) → before 10 xs ≡ 0 → before 10 xs < length xs → held_bytes xs ≡ 0
unfolding held_bytes before
held_none [] e h = refl
held_none (x ∷ xs) e h = go (return_before_feed x (next_byte xs)) (eqb x 10) e
  where
    go : (r t : Bool) → cond t 0 (suc (before 10 xs)) ≡ 0 → cond r 0 (cond t 0 (suc (held_bytes xs))) ≡ 0
    go true t e = refl
    go false true e = refl
    go false false e = absurd (omega arith)

held_on : (b : ℕ) (bs : List ℕ) → eqb b 10 ≡ false → (eqb b 13 && eqb (next_byte bs) 10) ≡ false → held_bytes (b ∷ bs) ≡ suc (held_bytes bs)
unfolding held_bytes return_before_feed
held_on b bs e r = rw (r, e) refl

held_return : (b : ℕ) (bs : List ℕ) → eqb b 13 ≡ true → eqb (next_byte bs) 10 ≡ true → held_bytes (b ∷ bs) ≡ 0
unfolding held_bytes return_before_feed
held_return b bs e r = rw (e, r) refl

module _ (b : ℕ) (bs : List ℕ) (e : eqb b 10 ≡ false) (h : before 10 bs < length bs) (ih : held_bytes bs + cond (eqb (before_feed bs) 13) 1 0 ≡ before 10 bs) where
  -- LF stands directly behind b
  held_last : before 10 bs ≡ 0 → held_bytes (b ∷ bs) + cond (eqb b 13) 1 0 ≡ 1
  held_last z = go (eqb b 13) refl
    where
      feed : eqb (next_byte bs) 10 ≡ true
      feed = eq-eqb _ _ (rw z at (separator_at 10 bs h))

      go : (r : Bool) → eqb b 13 ≡ r → held_bytes (b ∷ bs) + cond (eqb b 13) 1 0 ≡ 1
      go true f = rw (held_return b bs f feed, f) refl
      go false f = rw (held_on b bs e (rw f refl), held_none bs z h, f) refl

  -- it stands further on
  held_further : (k : ℕ) → before 10 bs ≡ suc k → held_bytes (b ∷ bs) + cond (eqb (get_or bs k 0) 13) 1 0 ≡ suc (suc k)
  held_further k z = go (eqb (next_byte bs) 10) refl
    where
      go : (r : Bool) → eqb (next_byte bs) 10 ≡ r → held_bytes (b ∷ bs) + cond (eqb (get_or bs k 0) 13) 1 0 ≡ suc (suc k)
      go true f = absurd (omega (arith, feeds_next bs f))
      go false f =
          let i : held_bytes bs + cond (eqb (get_or bs k 0) 13) 1 0 ≡ suc k = rw z at ih in
          omega (arith, held_on b bs e (both_false (eqb b 13) (eqb (next_byte bs) 10) f), i)

  held_more : (k : ℕ) → before 10 bs ≡ k → held_bytes (b ∷ bs) + cond (eqb (get_or (b ∷ bs) k 0) 13) 1 0 ≡ suc k
  held_more zero z = held_last z
  held_more (suc k) z = held_further k z

-- all bytes before LF, but for a CR directly before it
held_told : (xs : List ℕ) → before 10 xs < length xs → held_bytes xs + cond (eqb (before_feed xs) 13) 1 0 ≡ before 10 xs
held_told [] h = absurd (not-suc-le-zero h)
held_told (b ∷ bs) h = go (eqb b 10) refl (λ k. held_told bs k)
  where
    go : (t : Bool) → eqb b 10 ≡ t → (before 10 bs < length bs → held_bytes bs + cond (eqb (before_feed bs) 13) 1 0 ≡ before 10 bs)
        → held_bytes (b ∷ bs) + cond (eqb (before_feed (b ∷ bs)) 13) 1 0 ≡ before 10 (b ∷ bs)
    go true e ih = let z = feeds_next (b ∷ bs) e in rw (held_none (b ∷ bs) z h, z) refl
    go false e ih =
        let k : before 10 bs < length bs = omega (arith, before_on b bs e, h) in
        rw (before_on b bs e) (held_more b bs e k (ih k) (before 10 bs) refl)

module _ (t : List ℕ) (at feed : ℕ) (f : feed ≡ at + before 10 (drop at t)) (h : feed < length t) where
  held_here : held_bytes (drop at t) + cond (eqb (before_feed (drop at t)) 13) 1 0 ≡ before 10 (drop at t)
  held_here = held_told (drop at t) (piece_short 10 t at feed f h)

  pub held_within : held_bytes (drop at t) ≤ before 10 (drop at t)
  held_within = omega (arith, held_here)

  pub end_empty : feed ≤ at → feed ≡ at + held_bytes (drop at t)
  end_empty k = omega (arith, held_within)

  before_is : at < feed → before_feed (drop at t) ≡ get_or t (feed - 1) 0
  before_is k = go (before 10 (drop at t)) refl
    where
      go : (n : ℕ) → before 10 (drop at t) ≡ n → get_or (0 ∷ drop at t) n 0 ≡ get_or t (feed - 1) 0
      go zero z = absurd (omega arith)
      go (suc n) z = let q : at + n ≡ feed - 1 = omega arith in get_or-drop at t n 0 ∙ rw q refl

  pub end_return : at < feed → get_or t (feed - 1) 0 ≡ 13 → feed - 1 ≡ at + held_bytes (drop at t)
  end_return k e =
      let q : held_bytes (drop at t) + 1 ≡ before 10 (drop at t) = rw (before_is k, eq-eqb _ _ e) at held_here in
      omega arith

  pub end_plain : at < feed → (get_or t (feed - 1) 0 ≡ 13 → ⊥) → feed ≡ at + held_bytes (drop at t)
  end_plain k e =
      let q : held_bytes (drop at t) + 0 ≡ before 10 (drop at t) = rw (before_is k, ne_eqb _ _ e) at held_here in
      omega arith

-- ---- the first line, and what is left

-- the lines of a byte more, by whether it is a CR, LF stands behind it, and it is LF
abbrev onward : ℕ → ℕ → Bool → Bool → Bool → List Line → List Line
onward at b c n f ls = cond (c && n) (end_at at ∷ drop 1 ls) (cond f (end_at at ∷ ls) (on_line at b ls))

ended_line : (at : ℕ) (xs : List ℕ) → before 10 xs < length xs
    → lines_from at xs ≡ record { start = at; text = take (held_bytes xs) xs; ended = true } ∷ lines_from (at + suc (before 10 xs)) (drop (suc (before 10 xs)) xs)
unfolding before held_bytes lines_from with_byte on_line return_before_feed
ended_line at [] h = absurd (not-suc-le-zero h)
ended_line at (b ∷ bs) h = go (eqb b 13) refl (eqb (next_byte bs) 10) (eqb b 10) refl h (λ k. ended_line (at + 1) bs k)
  where
    q : at + 1 + suc (before 10 bs) ≡ at + suc (suc (before 10 bs))
    q = omega arith

    go : (c : Bool) → eqb b 13 ≡ c → (n f : Bool) → eqb b 10 ≡ f → cond f 0 (suc (before 10 bs)) < suc (length bs)
        → (before 10 bs < length bs
        → lines_from (at + 1) bs ≡ record { start = at + 1; text = take (held_bytes bs) bs; ended = true } ∷ lines_from (at + 1 + suc (before 10 bs)) (drop (suc (before 10 bs)) bs))
        → onward at b c n f (lines_from (at + 1) bs)
        ≡ record { start = at; text = take (cond (c && n) 0 (cond f 0 (suc (held_bytes bs)))) (b ∷ bs); ended = true }
        ∷ lines_from (at + suc (cond f 0 (suc (before 10 bs)))) (drop (suc (cond f 0 (suc (before 10 bs)))) (b ∷ bs))
    go true r n true e k ih = absurd (false≢true (sym (feed_no_return b e) ∙ r))
    go false r n true e k ih = refl
    go true r true false e k ih = ap (λ (ls : List Line). end_at at ∷ drop 1 ls) (ih (omega arith)) ∙ rw q refl
    go true r false false e k ih = ap (on_line at b) (ih (omega arith)) ∙ rw q refl
    go false r n false e k ih = ap (on_line at b) (ih (omega arith)) ∙ rw q refl

open_line : (at : ℕ) (xs : List ℕ) → length xs ≤ before 10 xs → 0 < length xs → lines_from at xs ≡ record { start = at; text = xs; ended = false } ∷ []
unfolding before lines_from with_byte on_line return_before_feed
open_line at [] h k = absurd (not-suc-le-zero k)
open_line at (b ∷ []) h k = go (eqb b 13) (eqb b 10) h
  where
    go : (c f : Bool) → 1 ≤ cond f 0 1 → onward at b c false f [] ≡ record { start = at; text = b ∷ []; ended = false } ∷ []
    go c true q = absurd (omega arith)
    go true false q = refl
    go false false q = refl
open_line at (b ∷ x ∷ xs) h k = go (eqb b 13) (eqb x 10) refl (eqb b 10) h (λ q. open_line (at + 1) (x ∷ xs) q (omega arith))
  where
    go : (c n : Bool) → eqb x 10 ≡ n → (f : Bool) → suc (suc (length xs)) ≤ cond f 0 (suc (before 10 (x ∷ xs)))
        → (suc (length xs) ≤ before 10 (x ∷ xs) → lines_from (at + 1) (x ∷ xs) ≡ record { start = at + 1; text = x ∷ xs; ended = false } ∷ [])
        → onward at b c n f (lines_from (at + 1) (x ∷ xs)) ≡ record { start = at; text = b ∷ x ∷ xs; ended = false } ∷ []
    go c n e true q ih = absurd (omega arith)
    go c true e false q ih = absurd (omega (arith, feeds_next (x ∷ xs) e))
    go true false e false q ih = ap (on_line at b) (ih (omega arith))
    go false false e false q ih = ap (on_line at b) (ih (omega arith))

module _ (t : List ℕ) (at e : ℕ) (f : e ≡ at + before 10 (drop at t)) (w : at < length t) where
  pub splits_ended : (end : ℕ) → end ≡ at + held_bytes (drop at t) → e < length t → Splits t at (record { end = end; next = e + 1; ended = true })
  splits_ended end g h = record {
    splits =
        let q : at + suc (before 10 (drop at t)) ≡ e + 1 = omega arith in
        let z : end - at ≡ held_bytes (drop at t) = omega arith in
        rw z
        (ended_line at (drop at t) (piece_short 10 t at e f h)
        ∙ rw (q, piece_behind 10 t at e f) refl);
    after = omega arith;
    inside = omega (arith, held_within t at e f h);
    further = omega arith;
    stays = omega arith;
    fed = λ q. omega (arith, held_within t at e f h);
  }

  pub splits_open : length t ≤ e → Splits t at (record { end = e; next = length t; ended = false })
  unfolding lines_from
  splits_open h = record {
    splits =
        rw (piece_last 10 t at e f h, drop-length t)
        (open_line at (drop at t) (omega (arith, length-drop at t)) (omega (arith, length-drop at t)));
    after = omega arith;
    inside = piece_within 10 t at e f (omega arith);
    further = w;
    stays = omega arith;
    fed = λ q. absurd (let z : ◌≡◌ {A = ℕ} 0 1 = cc in omega arith);
  }

-- ---- the column

pub column_within : (l : List ℕ) → column l ≤ length l
unfolding column
column_within [] = omega arith
column_within (b ∷ bs) = go (eqb b 32) (column_within bs)
  where
    go : (t : Bool) → column bs ≤ length bs → cond t (column bs + 1) 0 ≤ suc (length bs)
    go true k = omega arith
    go false k = omega arith

module _ (l : List ℕ) (i : ℕ) (inv : i + column (drop i l) ≡ column l) where
  column_more : i < length l → get_or l i 0 ≡ 32 → column (drop i l) ≡ column (drop (i + 1) l) + 1
  unfolding column
  column_more h e = rw (drop_more l i h, eq-eqb _ _ e)

  column_here : i < length l → (get_or l i 0 ≡ 32 → ⊥) → column (drop i l) ≡ 0
  unfolding column
  column_here h e = rw (drop_more l i h, ne_eqb _ _ e)

  column_none : length l ≤ i → column (drop i l) ≡ 0
  unfolding column
  column_none h = rw (drop_of_length-le l h)

  pub column_again : i < length l → get_or l i 0 ≡ 32 → i + 1 + column (drop (i + 1) l) ≡ column l
  column_again h e = omega (arith, column_more h e)

  pub column_stops : i < length l → (get_or l i 0 ≡ 32 → ⊥) → i ≡ column l
  column_stops h e = omega (arith, column_here h e)

  pub column_ends : length l ≤ i → i ≡ column l
  column_ends h = omega (arith, column_none h)

-- ---- skipped lines

pub skipped_blank : (l : List ℕ) (k : ℕ) → k ≡ column l → length l ≤ k → true ≡ skipped l
unfolding skipped
skipped_blank l k e h = let q : column l ≡ length l = omega (arith, column_within l) in rw (eq-eqb (column l) (length l) q)

pub skipped_else : (l : List ℕ) (k : ℕ) → k ≡ column l → k < length l → eqb (get_or l k 0) 35 ≡ skipped l
unfolding skipped
skipped_else l k e h =
    rw (ne_eqb (column l) (length l) (λ (z : column l ≡ length l). omega arith), e)

-- ---- bytes that may stand

pub plain_is : (b : ℕ) (w : Bool) → w ≡ within 0x20 0x7E b → (eqb b 10 || w) ≡ is_plain b
plain_is b w e = rw e refl

pub stands_is : (b next : ℕ) (r : Bool) → r ≡ is_plain b → (r || (eqb b 13 && eqb next 10)) ≡ may_stand b next
unfolding may_stand return_before_feed
stands_is b next r e = rw e

plain_stands : (t : List ℕ) → all_of is_plain t ≡ true → all_stand t ≡ true
unfolding all_of all_stand may_stand
plain_stands [] e = refl
plain_stands (b ∷ bs) e = rw (both_left (is_plain b) (all_of is_plain bs) e) (plain_stands bs (both_right (is_plain b) (all_of is_plain bs) e))

pub plain_none : (t : List ℕ) (r : Bool) → r ≡ all_of is_plain t → r ≡ true → None ≡ line_if (bad_byte_line 1 t)
plain_none t r e h = rw (none_bad 1 t (plain_stands t (sym e ∙ h)))

-- CR is not plain
pub plain_not : (t : List ℕ) → 2 ≤ length t → get_or t (length t - 2) 0 ≡ 13 → false ≡ all_of is_plain t
plain_not t h e = go (all_of is_plain t) refl
  where
    go : (x : Bool) → all_of is_plain t ≡ x → false ≡ x
    go true p = absurd (false≢true (ap is_plain (sym e) ∙ all_of_at is_plain 0 t p (length t - 2) (omega arith)))
    go false p = refl

-- the first byte of what is left
next_is : (t : List ℕ) (i : ℕ) → next_byte (drop i t) ≡ get_or t i 0
next_is t i = let q : i + 0 ≡ i = omega arith in get_or-drop i t 0 0 ∙ rw q refl

-- one byte more, before the next
stand_more : (t : List ℕ) (i : ℕ) → i < length t → all_stand (drop i t) ≡ (may_stand (get_or t i 0) (get_or t (i + 1) 0) && all_stand (drop (i + 1) t))
unfolding all_stand
stand_more t i h = rw (drop_more t i h, next_is t (i + 1)) refl

pub behind_none : (t : List ℕ) (i : ℕ) → length t ≤ i + 1 → 0 ≡ get_or t (i + 1) 0
behind_none t i h = sym (ap next_byte (drop_of_length-le t h)) ∙ next_is t (i + 1)

-- the bytes before the one before i may stand, and those from it on, exactly where all may
module _ (t : List ℕ) (i : ℕ) (right : Bool) (inv : (right && all_stand (drop (i - 1) t)) ≡ all_stand t) where
  pub stand_again : (r : Bool) → 1 ≤ i → i < length t → r ≡ may_stand (get_or t (i - 1) 0) (get_or t i 0) → (right && r && all_stand (drop (i + 1 - 1) t)) ≡ all_stand t
  stand_again r f h e =
      let p : i - 1 + 1 ≡ i = omega arith in
      let q : i + 1 - 1 ≡ i = omega arith in
      rw (← inv, stand_more t (i - 1) (omega arith), p, q, e) (and_assoc right (may_stand (get_or t (i - 1) 0) (get_or t i 0)) (all_stand (drop i t)))

  pub stand_last : (r : Bool) → 1 ≤ length t → i ≡ length t → r ≡ may_stand (get_or t (length t - 1) 0) 0 → not (right && r) ≡ not (all_stand t)
  unfolding all_stand
  stand_last r f h e =
      let p : i - 1 + 1 ≡ length t = omega arith in
      let q : i - 1 ≡ length t - 1 = omega arith in
      let z : 0 ≡ get_or t (length t) 0 = rw p at (behind_none t (i - 1) (omega arith)) in
      let n : drop (length t) t ≡ [] = drop-length t in
      rw (← inv, stand_more t (i - 1) (omega arith), p, q, ← z, e, n, and-true)

  pub stand_none : length t ≤ i - 1 → not right ≡ not (all_stand t)
  unfolding all_stand
  stand_none h = rw (← inv, drop_of_length-le t h, and-true)

pub bad_nowhere : (t : List ℕ) (r : Bool) → r ≡ not (all_stand t) → not r ≡ true → None ≡ line_if (bad_byte_line 1 t)
bad_nowhere t r e h = rw (none_bad 1 t (go (all_stand t) r e h))
  where
    go : (x y : Bool) → y ≡ not x → not y ≡ true → x ≡ true
    go true y f g = refl
    go false y f g = absurd (let z : ◌≡◌ {A = ℕ} 0 1 = cc in omega arith)

pub behind_line : (b n : ℕ) → b ≡ 10 → n + 1 ≡ cond (eqb b 10) (n + 1) n
behind_line b n e = rw (eq-eqb b 10 e)

pub behind_from : (t : Bool) (n m : ℕ) → 1 ≤ n → m ≡ cond t (n + 1) n → 1 ≤ m
behind_from true n m h e = omega arith
behind_from false n m h e = omega arith

pub behind_else : (b n : ℕ) → (b ≡ 10 → ⊥) → n ≡ cond (eqb b 10) (n + 1) n
behind_else b n e = rw (ne_eqb b 10 e)

module _ (t : List ℕ) (i n : ℕ) (inv : bad_byte_line n (drop i t) ≡ bad_byte_line 1 t) where
  bad_opened : i < length t
      → cond (may_stand (get_or t i 0) (get_or t (i + 1) 0)) (bad_byte_line (cond (eqb (get_or t i 0) 10) (n + 1) n) (drop (i + 1) t)) n ≡ bad_byte_line 1 t
  unfolding bad_byte_line
  bad_opened h = rw (← inv, drop_more t i h, next_is t (i + 1)) refl

  pub bad_again : (r : Bool) (next m : ℕ) → i < length t → next ≡ get_or t (i + 1) 0 → r ≡ may_stand (get_or t i 0) next → not r ≡ false → m ≡ cond (eqb (get_or t i 0) 10) (n + 1) n
      → bad_byte_line m (drop (i + 1) t) ≡ bad_byte_line 1 t
  bad_again r next m h z e f g =
      let k : may_stand (get_or t i 0) (get_or t (i + 1) 0) ≡ true = rw z at (sym e ∙ not-false r f) in rw (← bad_opened h, k, g) refl

  pub bad_here : (r : Bool) (next : ℕ) → i < length t → next ≡ get_or t (i + 1) 0 → r ≡ may_stand (get_or t i 0) next → not r ≡ true → 1 ≤ n → Some n ≡ line_if (bad_byte_line 1 t)
  bad_here r next h z e f one =
      let k : may_stand (get_or t i 0) (get_or t (i + 1) 0) ≡ false = rw z at (sym e ∙ not-true r f) in
      rw (← bad_opened h, k, ne_eqb n 0 (λ y. omega arith))

  pub bad_none : length t ≤ i → None ≡ line_if (bad_byte_line 1 t)
  unfolding bad_byte_line
  bad_none h = rw (← inv, drop_of_length-le t h)

-- ---- every byte passes a test, in a loop without exit: those before it did, and so do those from it on, exactly where all do

module _ (f : ℕ → Bool) (s : List ℕ) (i : ℕ) (right : Bool) (inv : (right && all_of f (drop i s)) ≡ all_of f s) where
  pub right_again : (r : Bool) → i < length s → r ≡ f (get_or s i 0) → (right && r && all_of f (drop (i + 1) s)) ≡ all_of f s
  unfolding all_of
  right_again r h e = rw (← inv, drop_more s i h, e) (and_assoc right (f (get_or s i 0)) (all_of f (drop (i + 1) s)))

  pub right_done : length s ≤ i → right ≡ all_of f s
  unfolding all_of
  right_done h = rw (← inv, drop_of_length-le s h, and-true)

-- ---- the line of a bad byte, if there is one

module _ (n : ℕ) (r : Option ℕ) (e : r ≡ line_if n) where
  pub is_line : (line : ℕ) → r ≡ Some line → line ≡ n
  is_line line f = go (eqb n 0) e
    where
      go : (t : Bool) → r ≡ cond t None (Some n) → line ≡ n
      go true g = absurd (let z : ◌≡◌ {A = ℕ} 0 1 = cc in omega arith)
      go false g = cc

  pub is_some_line : (line : ℕ) → r ≡ Some line → (line ≡ 0 → ⊥)
  is_some_line line f z = let g : r ≡ None = rw (sym (is_line line f) ∙ z) at e in let y : ◌≡◌ {A = ℕ} 0 1 = cc in omega arith

  pub is_no_line : r ≡ None → n ≡ 0
  is_no_line f = go (eqb n 0) refl e
    where
      go : (t : Bool) → eqb n 0 ≡ t → r ≡ cond t None (Some n) → n ≡ 0
      go true h g = eqb-true n 0 h
      go false h g = absurd (let z : ◌≡◌ {A = ℕ} 0 1 = cc in omega arith)
