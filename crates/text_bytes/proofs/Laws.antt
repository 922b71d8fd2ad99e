-- The classes of bytes: what the code computes of a byte is the paper's test. And the ends of a part.
use mathlib.Core.Path.{◌≡◌, sym, ◌∙◌}
use mathlib.Core.List.{List}
use mathlib.Core.Bool.{Bool, ◌||◌, or_assoc, or-false}
use Prim.Native.Nat.{ℕ, ◌-◌, ◌≤◌}
use Prim.Native.Char.{code}
use native.Mathlib.Omega.{arith}
use lib.Dec.{eqb}
use lib.ListN.{length, take, drop, length-drop, drop_of_length-le}
use lib.Seq.{take-nil, take_all}
use Rattle.paper.specs.Common.{within, any_of}
use Rattle.paper.specs.Scalars.{is_letter, is_digit, identifier_first}

module _ (b : ℕ) where
  pub letter_is : (capital small : Bool) → capital ≡ within (code "A") (code "Z") b → small ≡ within (code "a") (code "z") b → (capital || small) ≡ is_letter b
  unfolding is_letter
  letter_is capital small e f = rw (e, f)

  pub digit_is : (digit : Bool) → digit ≡ within (code "0") (code "9") b → digit ≡ is_digit b
  unfolding is_digit
  digit_is digit e = e

  pub identifier_first_is : (letter digit : Bool) → letter ≡ is_letter b → digit ≡ is_digit b → (letter || digit || eqb b (code "/") || eqb b (code ".") || eqb b (code "_")) ≡ identifier_first b
  unfolding identifier_first any_of
  identifier_first_is letter digit e f = rw (e, f) (simp (or_assoc, or-false))

-- ---- a part from a start to an end

module _ (t : List ℕ) (start end : ℕ) where
  pub part_past : length t ≤ start → take 0 t ≡ take (end - start) (drop start t)
  part_past h = rw (drop_of_length-le t h) (sym (take-nil (end - start)))

  pub part_none : end ≤ start → take 0 t ≡ take (end - start) (drop start t)
  part_none h = let e : end - start ≡ 0 = omega arith in rw e

  pub part_rest : length t ≤ end → take (length t - start) (drop start t) ≡ take (end - start) (drop start t)
  part_rest h =
      let l = length-drop start t in
      take_all (length t - start) (drop start t) (omega arith) ∙ sym (take_all (end - start) (drop start t) (omega arith))
