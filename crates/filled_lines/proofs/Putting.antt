-- Bytes put one after the other.
use mathlib.Core.Path.{◌≡◌, refl, sym, ◌∙◌}
use mathlib.Core.List.{List, [], ◌∷◌, ◌++◌}
use Prim.Native.Nat.{ℕ, ◌+◌, ◌<◌, ◌≤◌}
use native.Mathlib.Numerals.{add-one}
use native.Mathlib.Omega.{arith}
use lib.ListN.{length, get_or, take, drop, set}
use lib.Seq.{take-suc, take-length, append_snoc, set_at, length-take-le}
use Rattle.laws.proofs.Places.{drop_more}
use Rattle.text_keys.specs.Rows.{key_text}
use Rattle.text_keys.specs.declared.rows.Key.{Key}
use Rattle.filled_lines.specs.Wrote.{Wrote}

-- i bytes are copied, the others are as they were
pub copied_more : (s old out : List ℕ) (i : ℕ) → out ≡ take i s ++ drop i old → i < length s → length s ≤ length old
    → set out i (get_or s i 0) ≡ take (i + 1) s ++ drop (i + 1) old
copied_more s old out i e h l =
    let more : take (i + 1) s ≡ take i s ++ (get_or s i 0 ∷ []) = rw add-one (take-suc s i 0 h) in
    rw (e, drop_more old i (omega arith), set_at (take i s) (get_or old i 0) (drop (i + 1) old) (get_or s i 0) i (length-take-le i s (omega arith)), more)
    (sym (append_snoc (take i s) (get_or s i 0) (drop (i + 1) old)))

pub copied_all : (s old out : List ℕ) (i : ℕ) → out ≡ take i s ++ drop i old → length s ≤ i → i ≤ length s → length s ≤ length old → Wrote s old out i
copied_all s old out i e h k l =
    let q : i ≡ length s = omega arith in
    record { room = l; far = q; left = e ∙ rw (q, take-length) refl }

pub copied_whole : (s old out : List ℕ) (i : ℕ) → out ≡ take i s ++ drop i old → length s ≤ i → i ≤ length s → length s ≤ length old → Wrote s old out (length s)
copied_whole s old out i e h k l = let q : i ≡ length s = omega arith in rw q at (copied_all s old out i e h k l)

pub byte_put : (b : ℕ) (old : List ℕ) → 1 ≤ length old → Wrote (b ∷ []) old (set old 0 b) 1
byte_put b [] h = absurd (omega arith)
byte_put b (x ∷ xs) h = record { room = h; far = refl; left = refl }

-- a key that stands in front of some bytes
module _ (key : Key) (bs : List ℕ) (n : ℕ) (e : take (length (key_text key)) bs ≡ key_text key) (f : n ≡ length (key_text key)) where
  front : take n bs ≡ key_text key
  front = rw f e

  pub key_room : (m : ℕ) → length (key_text key) ≤ m → length (take n bs) ≤ m
  key_room m h = rw front h

  pub key_put : (old out : List ℕ) (r : ℕ) → Wrote (take n bs) old out r → Wrote (key_text key) old out r
  key_put old out r w = rw front at w
