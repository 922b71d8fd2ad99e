-- A text being written, one part of it behind the other.
use mathlib.Core.Path.{◌≡◌, refl, sym, ◌∙◌}
use mathlib.Core.List.{List, [], ◌++◌, append_assoc, append-nil}
use Prim.Native.Nat.{ℕ, ◌+◌, ◌-◌, ◌*◌, ◌^◌, ◌<◌, ◌≤◌}
use native.Mathlib.Omega.{arith}
use mir.Syntax.{w64}
use mir.Val as val
use lib.ListN.{length, take, drop, length-append, length-drop, drop_of_length-le}
use lib.Seq.{take_at, drop_at, take_all, drop-drop}
use Rattle.filled_lines.specs.Wrote.{Wrote}

-- what is lent from a place on, and the whole with that part put back
abbrev pub left : List ℕ → ℕ → List ℕ
left out at = take (length out - at) (drop at out)

abbrev pub over : List ℕ → ℕ → List ℕ → List ℕ
over out at ys = take at out ++ (ys ++ drop (length out - at) (drop at out))

pub wrote_none : (old : List ℕ) → Wrote [] old old 0
wrote_none old = record { room = omega arith; far = refl; left = refl }

module _ {x old out : List ℕ} {a : ℕ} (u : Wrote x old out a) where
  pub wrote_length : length out ≡ length old
  wrote_length = rw (u.left, length-append, length-drop) (omega (arith, u.room))

  left_is : left out a ≡ drop a old
  left_is =
      take_all (length out - a) (drop a out) (omega (arith, length-drop a out))
      ∙ rw (u.left, drop_at x (drop (length x) old) a (sym u.far), u.far) refl

  left_room : length (left out a) ≡ length old - a
  left_room = rw left_is (length-drop a old)

-- what is written on in the part behind
module _ {x old out : List ℕ} {a : ℕ} (u : Wrote x old out a) {y ys : List ℕ} {b : ℕ} (v : Wrote y (left out a) ys b) where
  pub wrote_on : Wrote (x ++ y) old (over out a ys) (a + b)
  wrote_on =
      let q : length (x ++ y) ≡ a + length y = length-append x y ∙ rw u.far refl in
      let start : take a out ≡ x = rw u.left (take_at x (drop (length x) old) a (sym u.far)) in
      let none : drop (length out - a) (drop a out) ≡ [] = drop_of_length-le (drop a out) {i = length out - a} (omega (arith, length-drop a out)) in
      let given : ys ≡ y ++ drop (a + length y) old = v.left ∙ rw (left_is u, drop-drop (length y) a old) refl in
      record {
        room = omega (arith, q, v.room, left_room u, u.far, u.room);
        far = rw (q, v.far) refl;
        left = rw (start, none, append-nil, given, q) (sym (append_assoc x y (drop (a + length y) old)));
      }

-- ---- two or three parts one behind the other: the facts as the code has them

pub first_room : (x rest old : List ℕ) → length (x ++ rest) ≤ length old → length x ≤ length old
first_room x rest old h = omega (arith, length-append x rest)

module _ (x old out : List ℕ) (a : ℕ) (u : Wrote x old out a) where
  pub wrote_within : a ≤ length out
  wrote_within = omega (arith, wrote_length u, u.far, u.room)

  pub last_room : (y : List ℕ) → length (x ++ y) ≤ length old → length y ≤ length (left out a)
  last_room y h = omega (arith, left_room u, length-append x y, u.far)

  pub second_room : (y rest : List ℕ) → length (x ++ (y ++ rest)) ≤ length old → length y ≤ length (left out a)
  second_room y rest h = first_room y rest (left out a) (last_room (y ++ rest) h)

module _ (x old out : List ℕ) (a : ℕ) (u : Wrote x old out a) (y ys : List ℕ) (b : ℕ) (v : Wrote y (left out a) ys b) where
  pub both_wrote : Wrote (x ++ y) old (over out a ys) (a + b)
  both_wrote = wrote_on u v

  pub third_room : (z : List ℕ) → length (x ++ (y ++ z)) ≤ length old → length z ≤ length (left (over out a ys) (a + b))
  third_room z h = last_room (x ++ y) old (over out a ys) (a + b) both_wrote z (rw append_assoc h)

  module _ (z zs : List ℕ) (c : ℕ) (w : Wrote z (left (over out a ys) (a + b)) zs c) where
    pub three_wrote : Wrote (x ++ (y ++ z)) old (over (over out a ys) (a + b) zs) (a + b + c)
    three_wrote = rw append_assoc at (wrote_on both_wrote w)

-- how far it was written is a number that fits
pub wrote_fits : (x y old out ys : List ℕ) (a b : ℕ) → Wrote y (left out a) ys b → Wrote x old out a → length old * 1 < 2 ^ 63 → val.Fits w64 (a + b)
wrote_fits x y old out ys a b v u l = omega (arith, (wrote_on u v).far, (wrote_on u v).room)

-- ---- a text written in a loop: what is written and what is left make the whole

-- of `whole`, all but `rest` is written, up to `at`
pub record Writing (whole rest old out : List ℕ) (at : ℕ) : Type 0 where
  pub front : List ℕ
  pub joins : whole ≡ front ++ rest
  pub enough : length whole ≤ length old
  pub done : Wrote front old out at

pub begin : (whole rest old : List ℕ) → whole ≡ rest → length whole ≤ length old → Writing whole rest old old 0
begin whole rest old e h = record { front = []; joins = e; enough = h; done = wrote_none old }

module _ {whole rest old out : List ℕ} {at : ℕ} (w : Writing whole rest old out at) where
  pub start : at ≤ length out
  start = wrote_within w.front old out at w.done

  pub same : length out ≡ length old
  same = wrote_length w.done

  pub finish : rest ≡ [] → Wrote whole old out at
  finish e = let q : whole ≡ w.front = w.joins ∙ rw (e, append-nil) refl in rw q w.done

  module _ (x others : List ℕ) (e : rest ≡ x ++ others) where
    pub room : length x ≤ length (left out at)
    room =
        let h : length (w.front ++ (x ++ others)) ≤ length old = rw (← e, ← w.joins) w.enough in
        first_room x others (left out at) (last_room w.front old out at w.done (x ++ others) h)

    module _ (ys : List ℕ) (b : ℕ) (v : Wrote x (left out at) ys b) where
      pub fits : length old * 1 < 2 ^ 63 → val.Fits w64 (at + b)
      fits l = wrote_fits w.front x old out ys at b v w.done l

      pub more : Writing whole others old (over out at ys) (at + b)
      more = record { front = w.front ++ x; joins = w.joins ∙ rw (e, append_assoc) refl; enough = w.enough; done = wrote_on w.done v }
