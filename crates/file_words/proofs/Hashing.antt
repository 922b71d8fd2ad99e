-- An element and its hash found in one go: the hash so far, gone on over what stands before the comma, is the element's.
use mathlib.Core.Path.{◌≡◌, refl}
use mathlib.Core.List.{List}
use Prim.Native.Nat.{ℕ, ◌+◌, ◌*◌, ◌%◌, ◌^◌, ◌<◌, ◌≤◌}
use mir.Syntax.{w64}
use mir.Val.{Fits}
use lib.ListN.{length, get_or, take, drop, drop_of_length-le}
use borrow.Author.Tests.{eq-eqb, ne_eqb}
use Rattle.paper.specs.Text.{comma}
use Rattle.laws.specs.Pieces.{before}
use Rattle.laws.proofs.Places.{drop_more}
use Rattle.laws.proofs.Bytes.{find_here, find_ends}
use Rattle.laws.proofs.Pieces.{piece_length}
use Rattle.text_lists.proofs.Walk.{none_found, next_fits, element_found}
use Rattle.file_index.specs.Buckets.{multipliers, hashes, hash_from, hash_of}
use Rattle.std.specs.Prelude.{Some, None}
use Rattle.file_words.specs.Hashed.{hashed_at}

-- what stands before the comma, from a place on
abbrev pub element : List ℕ → ℕ → List ℕ
element s at = take (before comma (drop at s)) (drop at s)

module _ (m : ℕ) (s : List ℕ) (at : ℕ) where
  pub hashed_none : length s < at → None ≡ hashed_at m s at
  unfolding hashed_at
  hashed_none h = rw (← none_found s at h) refl

  module _ (within : at ≤ length s) where
    hashed_found : (e h : ℕ) → e ≡ at + before comma (drop at s) → h ≡ hash_of m (element s at) → Some (record { end = e; next = e + 2; hash = h }) ≡ hashed_at m s at
    unfolding hashed_at
    hashed_found e h f g = rw (← element_found s at e f within, piece_length comma s at e f, ← g) refl

    module _ (i h : ℕ) (inv : i + before comma (drop i s) ≡ at + before comma (drop at s)) (hashed : hash_from m h (element s i) ≡ hash_of m (element s at)) where
      hash_here : i < length s → get_or s i 0 ≡ comma → h ≡ hash_of m (element s at)
      unfolding hash_from before
      hash_here l e = rw (drop_more s i l, eq-eqb _ _ e) at hashed

      hash_last : length s ≤ i → h ≡ hash_of m (element s at)
      unfolding hash_from before
      hash_last l = rw (drop_of_length-le s l) at hashed

      pub hashed_here : i < length s → get_or s i 0 ≡ comma → Some (record { end = i; next = i + 2; hash = h }) ≡ hashed_at m s at
      hashed_here l e = hashed_found i h (find_here comma s at i inv l e) (hash_here l e)

      pub hashed_on : i < length s → (get_or s i 0 ≡ comma → ⊥)
          → hash_from m ((h * (m % multipliers) + get_or s i 0) % hashes) (element s (i + 1)) ≡ hash_of m (element s at)
      unfolding hash_from before
      hashed_on l e = rw (← hashed, drop_more s i l, ne_eqb _ _ e)

      pub hashed_last : length s ≤ i → Some (record { end = i; next = i + 2; hash = h }) ≡ hashed_at m s at
      hashed_last l = hashed_found i h (find_ends comma s at i inv l) (hash_last l)

      pub last_fits : length s ≤ i → length s * 1 < 2 ^ 63 → Fits w64 (i + 2)
      last_fits l z = next_fits s at i (find_ends comma s at i inv l) within z
