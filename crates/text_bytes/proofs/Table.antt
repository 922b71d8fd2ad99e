-- A table of bytes: one test, computed over all of it, gives its rule at each byte.
use mathlib.Core.Path.{◌≡◌, refl}
use mathlib.Core.Bool.{Bool, true, false, cond, not, beq, ◌&&◌}
use mathlib.Core.List.{List}
use Prim.Native.Nat.{ℕ, suc, ◌+◌, ◌<◌, ◌≤◌}
use native.Mathlib.Omega.{arith}
use Prim.Native.Char.{code}
use lib.Dec.{eqb}
use lib.ListN.{length, get_or, drop, drop_of_length-le}
use borrow.Author.Tests.{eqb-true}
use Rattle.paper.specs.Common.{up_to}
use Rattle.paper.specs.Text.{bar}
use Rattle.laws.proofs.Tests.{up_to_at}
use Rattle.laws.proofs.Places.{drop_more}
use Rattle.text_bytes.specs.Classes.{part_of, run}
use Rattle.text_bytes.specs.Marks.{mark, part_mark, Marks}

module _ (mark_of : ℕ → ℕ) (table : List ℕ) where
  pub marks : length table ≡ 256 → up_to (λ b. eqb (get_or table b 0) (mark_of b)) 256 ≡ true → Marks mark_of table
  marks l h = record { size = l; right = λ b below. eqb-true (get_or table b 0) (mark_of b) (up_to_at (λ b. eqb (get_or table b 0) (mark_of b)) 256 h b below) }

-- what the code asks of a mark
mark_is : (t : Bool) → eqb (mark t) (code "1") ≡ t
mark_is true = refl
mark_is false = refl

part_is : (t p : Bool) → eqb (cond (t && p) (code "2") (mark t)) (code "1") ≡ (t && not p)
part_is true true = refl
part_is true false = refl
part_is false p = refl

passes_is : (t p : Bool) → not (eqb (cond (t && p) (code "2") (mark t)) (code "0")) ≡ t
passes_is true true = refl
passes_is true false = refl
passes_is false p = refl

module _ (f : ℕ → Bool) (table : List ℕ) (b : ℕ) where
  pub look_whole : Marks (λ b. mark (f b)) table → b < 256 → eqb (get_or table b 0) (code "1") ≡ f b
  look_whole m below = rw (m.right b below) (mark_is (f b))

  pub look_part : Marks (part_mark f) table → b < 256 → eqb (get_or table b 0) (code "1") ≡ part_of f b
  look_part m below = rw (m.right b below) (part_is (f b) (eqb b bar))

  pub look_passing : Marks (part_mark f) table → b < 256 → not (eqb (get_or table b 0) (code "0")) ≡ f b
  look_passing m below = rw (m.right b below) (passes_is (f b) (eqb b bar))

-- ---- a table of any marks: what one test of it, computed, says of a byte

is_beq : (a b : Bool) → beq a b ≡ true → a ≡ b
is_beq true true e = refl
is_beq false false e = refl
is_beq true false e = cc
is_beq false true e = cc

module _ (f : ℕ → Bool) (table : List ℕ) (b : ℕ) where
  pub look_marked : up_to (λ b. beq (eqb (get_or table b 0) (code "1")) (f b)) 256 ≡ true → b < 256 → eqb (get_or table b 0) (code "1") ≡ f b
  look_marked h below = is_beq _ _ (up_to_at (λ b. beq (eqb (get_or table b 0) (code "1")) (f b)) 256 h b below)

  pub look_unlike : up_to (λ b. beq (not (eqb (get_or table b 0) (code "0"))) (f b)) 256 ≡ true → b < 256 → not (eqb (get_or table b 0) (code "0")) ≡ f b
  look_unlike h below = is_beq _ _ (up_to_at (λ b. beq (not (eqb (get_or table b 0) (code "0"))) (f b)) 256 h b below)

-- ---- the loop: the bytes that pass end from i on where they end from `at` on

module _ (f : ℕ → Bool) (s : List ℕ) (at i : ℕ) (inv : i + run f (drop i s) ≡ at + run f (drop at s)) where
  pub run_ends : length s ≤ i → i ≡ at + run f (drop at s)
  unfolding run
  run_ends h = let q : run f (drop i s) ≡ 0 = rw (drop_of_length-le s h) in omega arith

  module _ (h : i < length s) (a : Bool) (e : a ≡ f (get_or s i 0)) where
    pub run_stops : a ≡ false → i ≡ at + run f (drop at s)
    unfolding run
    run_stops t = let q : run f (drop i s) ≡ 0 = rw (drop_more s i h, ← e, t) in omega arith

    pub run_more : a ≡ true → i + 1 + run f (drop (i + 1) s) ≡ at + run f (drop at s)
    unfolding run
    run_more t = let q : run f (drop i s) ≡ suc (run f (drop (i + 1) s)) = rw (drop_more s i h, ← e, t) in omega arith

module _ (f : ℕ → Bool) (s : List ℕ) (at i : ℕ) (inv : i + run f (drop i s) ≡ at + run f (drop at s)) where
  pub run_one : (a : Bool) → i < length s → length s < i + 2 → a ≡ f (get_or s i 0) → a ≡ true → i + 1 ≡ at + run f (drop at s)
  run_one a h l e t = run_ends f s at (i + 1) (run_more f s at i inv h a e t) (omega arith)

  module _ (h : i + 2 ≤ length s) (a : Bool) (e : a ≡ f (get_or s i 0)) where
    pub run_here : a ≡ false → i ≡ at + run f (drop at s)
    run_here t = run_stops f s at i inv (omega arith) a e t

    module _ (t : a ≡ true) (b : Bool) (g : b ≡ f (get_or s (i + 1) 0)) where
      behind_first : i + 1 + run f (drop (i + 1) s) ≡ at + run f (drop at s)
      behind_first = run_more f s at i inv (omega arith) a e t

      pub run_next : b ≡ false → i + 1 ≡ at + run f (drop at s)
      run_next u = run_stops f s at (i + 1) behind_first (omega arith) b g u

      pub run_again : b ≡ true → i + 2 + run f (drop (i + 2) s) ≡ at + run f (drop at s)
      run_again u =
          let q : i + 1 + 1 ≡ i + 2 = omega arith in
          rw q at (run_more f s at (i + 1) behind_first (omega arith) b g u)
