-- Every byte of a text may stand exactly where no line is that of a bad byte. And a byte that ends a line is one of two.
use mathlib.Core.Path.{◌≡◌, refl}
use mathlib.Core.Bool.{Bool, true, false, cond, ◌&&◌}
use mathlib.Core.List.{List, [], ◌∷◌}
use Prim.Native.Nat.{ℕ, ◌+◌, ◌≤◌}
use native.Mathlib.Omega.{arith}
use lib.Dec.{eqb}
use borrow.Author.Tests.{eqb-true}
use Rattle.paper.specs.Text.{line_feed, carriage_return, next_byte, may_stand, bad_byte_line}
use Rattle.laws.specs.Standing.{all_stand}
use Rattle.laws.proofs.Tests.{both_left, both_right}

pub feed_no_return : (b : ℕ) → eqb b line_feed ≡ true → eqb b carriage_return ≡ false
feed_no_return b e = rw (eqb-true b line_feed e) refl

pub none_bad : (n : ℕ) (t : List ℕ) → all_stand t ≡ true → bad_byte_line n t ≡ 0
unfolding all_stand bad_byte_line
none_bad n [] h = refl
none_bad n (b ∷ bs) h =
    rw (both_left (may_stand b (next_byte bs)) (all_stand bs) h)
    (none_bad (cond (eqb b line_feed) (n + 1) n) bs (both_right (may_stand b (next_byte bs)) (all_stand bs) h))

pub all_stand_lem : (n : ℕ) (t : List ℕ) → 1 ≤ n → bad_byte_line n t ≡ 0 → all_stand t ≡ true
unfolding all_stand bad_byte_line
all_stand_lem n [] h e = refl
all_stand_lem n (b ∷ bs) h e = go (may_stand b (next_byte bs)) (eqb b line_feed) e (λ m k. all_stand_lem m bs k)
  where
    go : (s f : Bool) → cond s (bad_byte_line (cond f (n + 1) n) bs) n ≡ 0 → ((m : ℕ) → 1 ≤ m → bad_byte_line m bs ≡ 0 → all_stand bs ≡ true) → (s && all_stand bs) ≡ true
    go true true e ih = ih (n + 1) (omega arith) e
    go true false e ih = ih n h e
    go false f e ih = absurd (omega arith)
