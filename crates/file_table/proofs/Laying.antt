-- The blocks of a table laid over zeros, one behind the other; what lies past them stays.
use mathlib.Core.Path.{◌≡◌, refl, sym, ap, ◌∙◌}
use mathlib.Core.List.{List, ◌++◌, append_assoc}
use Prim.Native.Nat.{ℕ, ◌+◌, ◌-◌, ◌≤◌}
use native.Mathlib.Omega.{arith}
use lib.ListN.{length, take, drop, replicate, length-append, length-replicate, take-append-drop, replicate-append-replicate}
use lib.Seq.{take_at, drop_at, take-append-le, drop-append-le}
use Rattle.laws.proofs.Places.{drop_zeros}
use Rattle.file_table.proofs.Writing.{take_zeros}

-- `front` is laid up to `at`, zeros stand from there up to `size`, and `tail` behind them
pub record Laid (size at : ℕ) (front tail out : List ℕ) : Type 0 where
  pub place : length front ≡ at
  pub within : at ≤ size
  pub holds : out ≡ front ++ (replicate (size - at) 0 ++ tail)

pub laid_first : (size at : ℕ) (out : List ℕ) → at ≤ size → take size out ≡ replicate size 0 → Laid size at (replicate at 0) (drop size out) out
laid_first size at out h z =
    let e : at + (size - at) ≡ size = omega arith in
    let s : ◌≡◌ {A = List ℕ} (replicate at 0 ++ replicate (size - at) 0) (replicate size 0) = replicate-append-replicate {A = ℕ} at (size - at) 0 ∙ ap (λ (k : ℕ). replicate k 0) e in
    record {
      place = length-replicate {A = ℕ} at 0;
      within = h;
      holds =
          sym (take-append-drop size out) ∙ ap (λ (l : List ℕ). l ++ drop size out) (z ∙ sym s)
          ∙ append_assoc (replicate at 0) (replicate (size - at) 0) (drop size out);
    }

module _ {size at : ℕ} {front tail out : List ℕ} (w : Laid size at front tail out) where
  behind : drop at out ≡ replicate (size - at) 0 ++ tail
  behind = ap (drop at) w.holds ∙ drop_at front (replicate (size - at) 0 ++ tail) at w.place

  before : take at out ≡ front
  before = ap (take at) w.holds ∙ take_at front (replicate (size - at) 0 ++ tail) at w.place

  long : (k : ℕ) → at + k ≤ size → k ≤ length (replicate {A = ℕ} (size - at) 0)
  long k h = rw length-replicate (omega arith)

  pub laid_zeros : (k : ℕ) → at + k ≤ size → take k (drop at out) ≡ replicate k 0
  laid_zeros k h = ap (take k) behind ∙ take-append-le k (replicate (size - at) 0) tail (long k h) ∙ take_zeros k (size - at) (omega arith)

  -- the next block comes behind
  pub laid_more : (k : ℕ) (ys : List ℕ) → length ys ≡ k → at + k ≤ size → Laid size (at + k) (front ++ ys) tail (take at out ++ (ys ++ drop k (drop at out)))
  laid_more k ys l h =
      let q : length (front ++ ys) ≡ at + k = length-append front ys ∙ rw (w.place, l) refl in
      let z : size - at - k ≡ size - (at + k) = omega arith in
      let r : drop k (drop at out) ≡ replicate (size - (at + k)) 0 ++ tail =
      ap (drop k) behind ∙ drop-append-le k (replicate (size - at) 0) tail (long k h) ∙ ap (λ (l : List ℕ). l ++ tail) (drop_zeros (size - at) k ∙ ap (λ (m : ℕ). replicate m 0) z) in
      record { place = q; within = h; holds = rw (before, r) (sym (append_assoc front ys (replicate (size - (at + k)) 0 ++ tail))) }

  -- there is no room left
  pub laid_all : at ≡ size → out ≡ front ++ tail
  laid_all e = let z : size - at ≡ 0 = omega arith in w.holds ∙ ap (λ (m : ℕ). front ++ (replicate m 0 ++ tail)) z

-- over the zeros in front comes what was left out at first
module _ (k : ℕ) (blocks tail out ys : List ℕ) (e : out ≡ replicate k 0 ++ blocks ++ tail) where
  front_first : out ≡ replicate k 0 ++ (blocks ++ tail)
  front_first = e ∙ append_assoc (replicate k 0) blocks tail

  pub front_zeros : take k (drop 0 out) ≡ replicate k 0
  front_zeros = ap (take k) front_first ∙ take_at (replicate k 0) (blocks ++ tail) k (length-replicate {A = ℕ} k 0)

  pub front_laid : take 0 out ++ (ys ++ drop k (drop 0 out)) ≡ ys ++ blocks ++ tail
  front_laid =
      ap (λ (l : List ℕ). ys ++ l) (ap (drop k) front_first ∙ drop_at (replicate k 0) (blocks ++ tail) k (length-replicate {A = ℕ} k 0))
      ∙ sym (append_assoc ys blocks tail)
