-- Line by line: what a line of the office file holds is what it held, and the CRs before it move where it starts.
use mathlib.Core.Path.{◌≡◌, refl}
use mathlib.Core.List.{List, [], ◌∷◌, ◌++◌}
use mathlib.Core.Bool.{Bool, true, false, cond, not, ◌&&◌}
use Prim.Native.Nat.{ℕ, zero, suc, ◌+◌, ◌-◌, ◌≤◌}
use native.Mathlib.Omega.{arith}
use lib.Dec.{eqb}
use lib.ListN.{length}
use borrow.Author.Tests.{not-true}
use Rattle.paper.specs.Common.{all_of}
use Rattle.paper.specs.Text.{Line, line_feed, next_byte, return_before_feed, may_stand, bad_byte_line, end_at, on_line, with_byte, lines_from}
use Rattle.laws.proofs.Tests.{both_left, both_right}
use Rattle.laws.proofs.Standing.{feed_no_return}
use Rattle.laws_office.specs.Office.{office_byte, office_from, no_return, returns_to}

-- ---- a byte, and what is left behind it

module _ (at b : ℕ) (bs : List ℕ) where
  pub lines_feed : eqb b 10 ≡ true → lines_from at (b ∷ bs) ≡ end_at at ∷ lines_from (at + 1) bs
  unfolding lines_from with_byte return_before_feed
  lines_feed e = rw (feed_no_return b e, e) refl

  pub lines_return : eqb b 10 ≡ true → lines_from at (13 ∷ b ∷ bs) ≡ end_at at ∷ lines_from (at + 1 + 1) bs
  unfolding lines_from with_byte return_before_feed
  lines_return e = rw (feed_no_return b e, e) refl

  pub lines_on : eqb b 10 ≡ false → eqb b 13 ≡ false → lines_from at (b ∷ bs) ≡ on_line at b (lines_from (at + 1) bs)
  unfolding lines_from with_byte return_before_feed
  lines_on e f = rw (f, e) refl

module _ (withReturn : ℕ → Bool) (n b : ℕ) (bs : List ℕ) where
  pub office_feed : eqb b 10 ≡ true → withReturn n ≡ false → office_from withReturn n (b ∷ bs) ≡ b ∷ office_from withReturn (n + 1) bs
  unfolding office_from office_byte
  office_feed e w = rw (w, e) refl

  pub office_return : eqb b 10 ≡ true → withReturn n ≡ true → office_from withReturn n (b ∷ bs) ≡ 13 ∷ b ∷ office_from withReturn (n + 1) bs
  unfolding office_from office_byte
  office_return e w = rw (w, e) refl

  pub office_on : eqb b 10 ≡ false → office_from withReturn n (b ∷ bs) ≡ b ∷ office_from withReturn n bs
  unfolding office_from office_byte
  office_on e = go (withReturn n)
    where
      go : (w : Bool) → cond (w && eqb b line_feed) (13 ∷ b ∷ []) (b ∷ []) ++ office_from withReturn (cond (eqb b line_feed) (n + 1) n) bs ≡ b ∷ office_from withReturn n bs
      go true = rw e refl
      go false = rw e refl

-- ---- the lines

-- how many CRs stand before line n
unfoldable pub returns_before : (ℕ → Bool) → ℕ → ℕ
returns_before withReturn n = returns_to withReturn (n - 1)

pub before_more : (withReturn : ℕ → Bool) (n : ℕ) → 1 ≤ n → returns_before withReturn (n + 1) ≡ returns_before withReturn n + cond (withReturn n) 1 0
unfolding returns_before returns_to
before_more withReturn zero h = absurd (omega arith)
before_more withReturn (suc n) h =
    let p : suc n + 1 - 1 ≡ suc n = omega arith in
    let q : suc n - 1 ≡ n = omega arith in
    rw (p, q) refl

-- a line of the office file, whose number is n
unfoldable pub moved_line : (ℕ → Bool) → ℕ → Line → Line
moved_line withReturn n l = record { start = l.start + returns_before withReturn n; text = l.text; ended = l.ended }

unfoldable pub moved_lines : (ℕ → Bool) → ℕ → List Line → List Line
moved_lines withReturn n [] = []
moved_lines withReturn n (l ∷ ls) = moved_line withReturn n l ∷ moved_lines withReturn (n + 1) ls

on_moved : (withReturn : ℕ → Bool) (n at b : ℕ) (ls : List Line) → on_line (at + returns_before withReturn n) b (moved_lines withReturn n ls) ≡ moved_lines withReturn n (on_line at b ls)
unfolding moved_lines moved_line on_line
on_moved withReturn n at b [] = refl
on_moved withReturn n at b (l ∷ ls) = refl

end_moved : (withReturn : ℕ → Bool) (n at : ℕ) (ls : List Line) → end_at (at + returns_before withReturn n) ∷ moved_lines withReturn (n + 1) ls ≡ moved_lines withReturn n (end_at at ∷ ls)
unfolding moved_lines moved_line
end_moved withReturn n at ls = refl

none_moved : (withReturn : ℕ → Bool) (n : ℕ) → [] ≡ moved_lines withReturn n []
unfolding moved_lines
none_moved withReturn n = refl

pub office_none : (withReturn : ℕ → Bool) (n : ℕ) → office_from withReturn n [] ≡ []
unfolding office_from
office_none withReturn n = refl

pub lines_none : (at : ℕ) → lines_from at [] ≡ []
unfolding lines_from
lines_none at = refl

pub other : (b : ℕ) (bs : List ℕ) → no_return (b ∷ bs) ≡ true → (eqb b 13 ≡ false) × (no_return bs ≡ true)
unfolding no_return all_of
other b bs h = (not-true (eqb b 13) (both_left (not (eqb b 13)) _ h), both_right (not (eqb b 13)) _ h)

pub lines_moved : (withReturn : ℕ → Bool) (n at : ℕ) (xs : List ℕ) → 1 ≤ n → no_return xs ≡ true
    → lines_from (at + returns_before withReturn n) (office_from withReturn n xs) ≡ moved_lines withReturn n (lines_from at xs)
lines_moved withReturn n at [] h none = rw (office_none withReturn n, lines_none, lines_none) (none_moved withReturn n)
lines_moved withReturn n at (b ∷ bs) h none =
    go (eqb b 10) refl (withReturn n) refl (lines_moved withReturn (n + 1) (at + 1) bs (omega arith) (other b bs none).1) (lines_moved withReturn n (at + 1) bs h (other b bs none).1)
  where
    go : (f : Bool) → eqb b 10 ≡ f → (w : Bool) → withReturn n ≡ w
        → lines_from (at + 1 + returns_before withReturn (n + 1)) (office_from withReturn (n + 1) bs) ≡ moved_lines withReturn (n + 1) (lines_from (at + 1) bs)
        → lines_from (at + 1 + returns_before withReturn n) (office_from withReturn n bs) ≡ moved_lines withReturn n (lines_from (at + 1) bs)
        → lines_from (at + returns_before withReturn n) (office_from withReturn n (b ∷ bs)) ≡ moved_lines withReturn n (lines_from at (b ∷ bs))
    go true e true w next same =
        let q : at + returns_before withReturn n + 1 + 1 ≡ at + 1 + returns_before withReturn (n + 1) = let m = rw w at (before_more withReturn n h) in omega (arith, m) in
        rw (office_return withReturn n b bs e w, lines_return (at + returns_before withReturn n) b (office_from withReturn (n + 1) bs) e, q, next, lines_feed at b bs e)
        (end_moved withReturn n at (lines_from (at + 1) bs))
    go true e false w next same =
        let q : at + returns_before withReturn n + 1 ≡ at + 1 + returns_before withReturn (n + 1) = let m = rw w at (before_more withReturn n h) in omega (arith, m) in
        rw (office_feed withReturn n b bs e w, lines_feed (at + returns_before withReturn n) b (office_from withReturn (n + 1) bs) e, q, next, lines_feed at b bs e)
        (end_moved withReturn n at (lines_from (at + 1) bs))
    go false e w v next same =
        let q : at + returns_before withReturn n + 1 ≡ at + 1 + returns_before withReturn n = omega arith in
        let r : eqb b 13 ≡ false = (other b bs none).0 in
        rw (office_on withReturn n b bs e, lines_on (at + returns_before withReturn n) b (office_from withReturn n bs) e r, q, same, lines_on at b bs e r)
        (on_moved withReturn n at b (lines_from (at + 1) bs))

-- ---- the bytes

module _ (b next : ℕ) where
  stands_feed : eqb b 10 ≡ true → may_stand b next ≡ true
  unfolding may_stand
  stands_feed e = rw e refl

  stands_alone : (other : ℕ) → eqb b 13 ≡ false → may_stand b next ≡ may_stand b other
  unfolding may_stand return_before_feed
  stands_alone other e = rw e refl

stands_return : (b : ℕ) → eqb b 10 ≡ true → may_stand 13 b ≡ true
unfolding may_stand return_before_feed
stands_return b e = rw e refl

module _ (n b : ℕ) (bs : List ℕ) where
  bad_feed : eqb b 10 ≡ true → bad_byte_line n (b ∷ bs) ≡ bad_byte_line (n + 1) bs
  unfolding bad_byte_line
  bad_feed e = rw (stands_feed b (next_byte bs) e, e) refl

  bad_return : eqb b 10 ≡ true → bad_byte_line n (13 ∷ b ∷ bs) ≡ bad_byte_line (n + 1) bs
  unfolding bad_byte_line
  bad_return e = rw (stands_return b e, stands_feed b (next_byte bs) e, e) refl

  bad_on : eqb b 10 ≡ false → bad_byte_line n (b ∷ bs) ≡ cond (may_stand b (next_byte bs)) (bad_byte_line n bs) n
  unfolding bad_byte_line
  bad_on e = rw e refl

bad_none : (n : ℕ) → bad_byte_line n [] ≡ 0
unfolding bad_byte_line
bad_none n = refl

pub bad_moved : (withReturn : ℕ → Bool) (n : ℕ) (xs : List ℕ) → no_return xs ≡ true → bad_byte_line n (office_from withReturn n xs) ≡ bad_byte_line n xs
bad_moved withReturn n [] none = rw (office_none withReturn n) refl
bad_moved withReturn n (b ∷ bs) none =
    go (eqb b 10) refl (withReturn n) refl (bad_moved withReturn (n + 1) bs (other b bs none).1) (bad_moved withReturn n bs (other b bs none).1)
  where
    go : (f : Bool) → eqb b 10 ≡ f → (w : Bool) → withReturn n ≡ w → bad_byte_line (n + 1) (office_from withReturn (n + 1) bs) ≡ bad_byte_line (n + 1) bs
        → bad_byte_line n (office_from withReturn n bs) ≡ bad_byte_line n bs → bad_byte_line n (office_from withReturn n (b ∷ bs)) ≡ bad_byte_line n (b ∷ bs)
    go true e true w next same = rw (office_return withReturn n b bs e w, bad_return n b (office_from withReturn (n + 1) bs) e, next, bad_feed n b bs e) refl
    go true e false w next same = rw (office_feed withReturn n b bs e w, bad_feed n b (office_from withReturn (n + 1) bs) e, next, bad_feed n b bs e) refl
    go false e w v next same =
        rw (
          office_on withReturn n b bs e,
          bad_on n b (office_from withReturn n bs) e,
          bad_on n b bs e,
          same,
          stands_alone b (next_byte (office_from withReturn n bs)) (next_byte bs) (other b bs none).0,
        ) refl

-- it is not shorter
pub office_longer : (withReturn : ℕ → Bool) (n : ℕ) (xs : List ℕ) → length xs ≤ length (office_from withReturn n xs)
office_longer withReturn n [] = omega arith
office_longer withReturn n (b ∷ bs) = go (eqb b 10) refl (withReturn n) refl (office_longer withReturn (n + 1) bs) (office_longer withReturn n bs)
  where
    go : (f : Bool) → eqb b 10 ≡ f → (w : Bool) → withReturn n ≡ w → length bs ≤ length (office_from withReturn (n + 1) bs) → length bs ≤ length (office_from withReturn n bs)
        → suc (length bs) ≤ length (office_from withReturn n (b ∷ bs))
    go true e true w next same = rw (office_return withReturn n b bs e w) (omega arith)
    go true e false w next same = rw (office_feed withReturn n b bs e w) (omega arith)
    go false e w v next same = rw (office_on withReturn n b bs e) (omega arith)
