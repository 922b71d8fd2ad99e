-- Words written behind others, in a stretch that is zero from there on.
use mathlib.Core.Path.{◌≡◌, refl, sym, ap, ◌∙◌}
use mathlib.Core.List.{List, [], ◌∷◌, ◌++◌, append-nil, append_assoc}
use Prim.Native.Nat.{ℕ, zero, suc, ◌+◌, ◌-◌, ◌<◌, ◌≤◌}
use native.Mathlib.Omega.{arith}
use lib.ListN.{length, take, drop, set, replicate, length-append}
use lib.Seq.{take-append_seam, drop-append_seam, set-append_seam}
use borrow.Rule.Slice.PartMut.{put_mid}
use Rattle.paper.specs.Table.{padded}
use Rattle.laws.proofs.Places.{drop_zeros}
use Rattle.file_blocks.specs.Written.{put_from}

pub take_zeros : (k n : ℕ) → k ≤ n → take {A = ℕ} k (replicate n 0) ≡ replicate k 0
take_zeros zero n h = refl
take_zeros (suc k) zero h = absurd (omega arith)
take_zeros (suc k) (suc n) h = ap (λ (l : List ℕ). 0 ∷ l) (take_zeros k n (omega arith))

module _ (size a k : ℕ) (xs : List ℕ) (e : length xs ≡ a) (room : a + k ≤ size) where
  -- the part behind them is zero
  pub zero_behind : take k (drop a (padded size xs)) ≡ replicate k 0
  unfolding padded
  zero_behind = rw (← e, drop-append_seam xs (replicate (size - length xs) 0)) (take_zeros k (size - length xs) (omega arith))

  -- and once it is written they are one stretch
  pub put_behind : (ys : List ℕ) → length ys ≡ k → put_mid a k (padded size xs) ys ≡ padded size (xs ++ ys)
  unfolding padded
  put_behind ys l =
      let q : size - length xs - k ≡ size - (length xs + length ys) = omega arith in
      rw (← e, take-append_seam xs (replicate (size - length xs) 0), drop-append_seam xs (replicate (size - length xs) 0), drop_zeros (size - length xs) k, length-append xs ys, q)
      (sym (append_assoc xs ys (replicate (size - (length xs + length ys)) 0)))

pub one_zero_more : (size : ℕ) (xs : List ℕ) → length xs < size → padded size xs ≡ padded size (xs ++ (0 ∷ []))
unfolding padded
one_zero_more size xs h =
    let q : size - length xs ≡ suc (size - (length xs + 1)) = omega arith in
    rw (length-append xs (0 ∷ []), q) (sym (append_assoc xs (0 ∷ []) (replicate (size - (length xs + 1)) 0)))

none_behind : (size : ℕ) → replicate size 0 ≡ padded size []
unfolding padded
none_behind size = let q : size - 0 ≡ size = omega arith in rw q refl

-- word by word
module _ (size : ℕ) where
  word_behind : (xs : List ℕ) (w : ℕ) → length xs + 1 ≤ size → set (padded size xs) (length xs) w ≡ padded size (xs ++ (w ∷ []))
  unfolding padded
  word_behind xs w h =
      let q : size - length xs ≡ suc (size - (length xs + 1)) = omega arith in
      rw (q, set-append_seam xs 0 (replicate (size - (length xs + 1)) 0) w, length-append xs (w ∷ [])) (sym (append_assoc xs (w ∷ []) (replicate (size - (length xs + 1)) 0)))

  pub words_behind : (xs ws : List ℕ) → length xs + length ws ≤ size → put_from (length xs) ws (padded size xs) ≡ padded size (xs ++ ws)
  unfolding put_from
  words_behind xs [] h = rw (append-nil xs)
  words_behind xs (w ∷ ws) h =
      let q : length xs + 1 ≡ length (xs ++ (w ∷ [])) = sym (length-append xs (w ∷ [])) in
      rw (word_behind xs w (omega arith), q) (words_behind (xs ++ (w ∷ [])) ws (omega (arith, q)) ∙ ap (padded size) (append_assoc xs (w ∷ []) ws))

  pub words_written : (ws : List ℕ) → length ws ≤ size → put_from 0 ws (replicate size 0) ≡ padded size ws
  words_written ws h = rw (none_behind size) (words_behind [] ws (omega arith))
