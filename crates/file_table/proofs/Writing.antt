-- A list being written, block by block, over zeros: what is written so far is the front of the whole, and zeros stand behind it.
use mathlib.Core.Path.{◌≡◌, refl, sym, ap, ◌∙◌}
use mathlib.Core.List.{List, [], ◌∷◌, ◌++◌, append_assoc, append-nil}
use Prim.Native.Nat.{ℕ, zero, suc, ◌+◌, ◌-◌, ◌≤◌}
use native.Mathlib.Nat.{sub-zero}
use native.Mathlib.Omega.{arith}
use lib.ListN.{length, take, drop, replicate, length-append, length-drop, length-replicate}
use lib.Seq.{take_at, drop_at, length-take-le}
use Rattle.paper.specs.Table.{padded}
use Rattle.laws.proofs.Places.{drop_zeros}
use Rattle.laws.proofs.Stretches.{length_padded}

-- of `whole`, all but `rest` is written to `out`, up to `at`
pub record Written (size at : ℕ) (whole rest out : List ℕ) : Type 0 where
  pub front : List ℕ
  pub joins : front ++ rest ≡ whole
  pub place : length front ≡ at
  pub within : at ≤ size
  pub long : length out ≡ size
  pub holds : out ≡ padded size front

pub take_zeros : (k m : ℕ) → k ≤ m → take {A = ℕ} k (replicate m 0) ≡ replicate k 0
take_zeros zero m h = refl
take_zeros (suc k) zero h = absurd (omega arith)
take_zeros (suc k) (suc m) h = ap (λ (l : List ℕ). 0 ∷ l) (take_zeros k m (omega arith))

padded_none : (size : ℕ) → padded size [] ≡ replicate size 0
unfolding padded
padded_none size = rw sub-zero refl

-- nothing is written
pub written_none : (size : ℕ) (whole out : List ℕ) → out ≡ replicate size 0 → Written size 0 whole whole out
written_none size whole out e =
    record { front = []; joins = refl; place = refl; within = omega arith; long = rw e (length-replicate size 0); holds = e ∙ sym (padded_none size) }

module _ {size at : ℕ} {whole rest out : List ℕ} (w : Written size at whole rest out) where
  behind : drop at out ≡ replicate (size - at) 0
  unfolding padded
  behind = rw (w.holds, drop_at w.front (replicate (size - length w.front) 0) at w.place, w.place) refl

  -- what is not yet written is zeros
  pub unwritten : (k : ℕ) → at + k ≤ size → take k (drop at out) ≡ replicate k 0
  unwritten k h = rw behind (take_zeros k (size - at) (omega arith))

  before : take at out ≡ w.front
  unfolding padded
  before = rw w.holds (take_at w.front (replicate (size - length w.front) 0) at w.place)

  -- there is room for all of the rest
  pub room : length whole ≤ size → at + length rest ≤ size
  room h = let e : length w.front + length rest ≡ length whole = sym (length-append w.front rest) ∙ ap length w.joins in omega (arith, e, w.place)

  -- the next block comes behind
  pub written_more : (k : ℕ) (ys others : List ℕ) → rest ≡ ys ++ others → length ys ≡ k → at + k ≤ size → Written size (at + k) whole others (take at out ++ (ys ++ drop k (drop at out)))
  unfolding padded
  written_more k ys others e l h =
      let q : length (w.front ++ ys) ≡ at + k = length-append w.front ys ∙ rw (w.place, l) refl in
      let holds : take at out ++ (ys ++ drop k (drop at out)) ≡ padded size (w.front ++ ys) =
      let z : size - at - k ≡ size - (at + k) = omega arith in
      rw (before, behind, drop_zeros (size - at) k, z, q) (sym (append_assoc w.front ys (replicate (size - (at + k)) 0))) in
      record {
        front = w.front ++ ys;
        joins = append_assoc w.front ys others ∙ rw (← e) w.joins;
        place = q;
        within = h;
        long = rw holds (length_padded size (w.front ++ ys) (omega (arith, q)));
        holds = holds;
      }

  -- what is left of it, lent whole
  left_length : length (take (length out - at) (drop at out)) ≡ size - at
  left_length = length-take-le (length out - at) (drop at out) (rw length-drop (omega arith)) ∙ rw w.long refl

  pub left_zeros : take (length out - at) (drop at out) ≡ replicate (length (take (length out - at) (drop at out))) 0
  left_zeros =
      let q : length out - at ≡ size - at = rw w.long refl in
      unwritten (length out - at) (omega (arith, w.long, w.within)) ∙ rw (left_length, q) refl

  pub left_room : (k : ℕ) → at + k ≤ size → k ≤ length (take (length out - at) (drop at out))
  left_room k h = rw left_length (omega arith)

  -- or a block with zeros behind it, in all that is left
  pub written_padded : (y ys others : List ℕ) → rest ≡ ys ++ others → y ≡ padded (length (take (length out - at) (drop at out))) ys → at + length ys ≤ size
      → Written size (at + length ys) whole others (take at out ++ (y ++ drop (length out - at) (drop at out)))
  unfolding padded
  written_padded y ys others e f h =
      let q : length (w.front ++ ys) ≡ at + length ys = length-append w.front ys ∙ rw w.place refl in
      let z : size - at - length ys ≡ size - (at + length ys) = omega arith in
      let none : size - at - (size - at) ≡ 0 = omega arith in
      let given : y ≡ ys ++ replicate (size - (at + length ys)) 0 = f ∙ rw (left_length, z) refl in
      let holds : take at out ++ (y ++ drop (length out - at) (drop at out)) ≡ padded size (w.front ++ ys) =
      rw (given, before, behind, w.long, drop_zeros (size - at) (size - at), none, append-nil, q) (sym (append_assoc w.front ys (replicate (size - (at + length ys)) 0))) in
      record {
        front = w.front ++ ys;
        joins = append_assoc w.front ys others ∙ rw (← e) w.joins;
        place = q;
        within = h;
        long = rw holds (length_padded size (w.front ++ ys) (omega (arith, q)));
        holds = holds;
      }

  -- all is written
  pub written_all : rest ≡ [] → out ≡ padded size whole
  written_all e = w.holds ∙ ap (padded size) (sym (append-nil w.front) ∙ ap (λ (l : List ℕ). w.front ++ l) (sym e) ∙ w.joins)

  pub written_length : rest ≡ [] → at ≡ length whole
  written_length e = let q = room_used in omega (arith, q, ap length e)
    where
      room_used : length whole ≡ at + length rest
      room_used = rw (← w.joins, length-append, w.place) refl

-- a part keeps its length
pub zeros_length : (size : ℕ) (old out : List ℕ) → old ≡ replicate size 0 → length out ≡ size → length out ≡ length old
zeros_length size old out e l = l ∙ sym (rw e (length-replicate size 0))
