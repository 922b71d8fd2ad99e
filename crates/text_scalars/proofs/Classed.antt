-- The bytes of names may stand in identifiers; an identifier is its class and the rest.
use mathlib.Core.Path.{◌≡◌, refl, sym, ap}
use mathlib.Core.Bool.{Bool, true, false, ◌&&◌, ◌||◌, false≢true}
use mathlib.Core.Logic.{⊎_elim}
use mathlib.Core.List.{List}
use Prim.Native.Nat.{ℕ, ◌≤◌}
use native.Mathlib.Omega.{arith}
use lib.Dec.{eqb, leb}
use lib.ListN.{length, get_or}
use borrow.Author.Tests.{eqb-true, ne_eqb, leb-true, le-leb}
use Rattle.paper.specs.Common.{bytes, within, is, any_of, all_of, cut}
use Rattle.paper.specs.Text.{bar}
use Rattle.paper.specs.Scalars.{is_letter, is_digit, name_byte, identifier_byte, identifier_first, parts_fit, is_identifier}
use Rattle.paper.specs.declared.Kind.{Kind}
use Rattle.laws.proofs.Tests.{both_left, both_right, either_of, same_equal}
use Rattle.text_scalars.specs.Classed.{fits_kind}

-- ---- tests in another order

later : (x a p : Bool) → (x && a && p) ≡ (a && (x && p))
later true true p = refl
later true false p = refl
later false true p = refl
later false false p = refl

-- ---- a name's bytes may stand in an identifier

between_marks : (b : ℕ) → 46 ≤ b → b ≤ 122 → (b ≡ 58 → ⊥) → (b ≡ 91 → ⊥) → (b ≡ 93 → ⊥) → identifier_byte b ≡ true
unfolding identifier_byte any_of
between_marks b low high colon opening closing = rw (
  le-leb 0x21 b (omega arith),
  le-leb b 0x7E (omega arith),
  ne_eqb b 44 (λ e. omega arith),
  ne_eqb b 91 opening,
  ne_eqb b 93 closing,
  ne_eqb b 123 (λ e. omega arith),
  ne_eqb b 125 (λ e. omega arith),
  ne_eqb b 35 (λ e. omega arith),
  ne_eqb b 34 (λ e. omega arith),
  ne_eqb b 39 (λ e. omega arith),
  ne_eqb b 58 colon,
)

pub name_in_identifier : (b : ℕ) → name_byte b ≡ true → identifier_byte b ≡ true
unfolding name_byte is_letter is_digit any_of
name_in_identifier b h =
    ⊎_elim
    (λ k.
    ⊎_elim (λ l. ⊎_elim (λ m. ranged 65 90 m (λ p q. between_marks b (omega arith) (omega arith) (λ e. omega arith) (λ e. omega arith) (λ e. omega arith)))
    (λ m. ranged 97 122 m (λ p q. between_marks b (omega arith) (omega arith) (λ e. omega arith) (λ e. omega arith) (λ e. omega arith)))
    (either_of (within 65 90 b) (within 97 122 b) l))
    (λ l. ranged 48 57 l (λ p q. between_marks b (omega arith) (omega arith) (λ e. omega arith) (λ e. omega arith) (λ e. omega arith)))
    (either_of (is_letter b) (is_digit b) k))
    (λ k.
    ⊎_elim (λ l. marked 95 l (λ e. between_marks b (omega arith) (omega arith) (λ z. omega arith) (λ z. omega arith) (λ z. omega arith)))
    (λ l. ⊎_elim (λ m. marked 46 m (λ e. between_marks b (omega arith) (omega arith) (λ z. omega arith) (λ z. omega arith) (λ z. omega arith)))
    (λ m. absurd (false≢true m))
    (either_of (eqb b 46) false l))
    (either_of (eqb b 95) (eqb b 46 || false) k))
    (either_of (is_letter b || is_digit b) (eqb b 95 || (eqb b 46 || false)) h)
  where
    ranged : (low high : ℕ) → within low high b ≡ true → (low ≤ b → b ≤ high → identifier_byte b ≡ true) → identifier_byte b ≡ true
    ranged low high w k = k (leb-true low b (both_left (leb low b) (leb b high) w)) (leb-true b high (both_right (leb low b) (leb b high) w))

    marked : (c : ℕ) → eqb b c ≡ true → (b ≡ c → identifier_byte b ≡ true) → identifier_byte b ≡ true
    marked c e k = k (eqb-true b c e)

-- ---- each scalar

pub identifier_splits : (kind : Kind) (s : List ℕ) → is_identifier kind s ≡ (all_of identifier_byte s && fits_kind kind s)
unfolding is_identifier fits_kind
identifier_splits kind s = later (within 1 128 (length s) && identifier_first (get_or s 0 0)) (all_of identifier_byte s) (parts_fit kind (cut bar s))

pub all_bytes : (s : List ℕ) → is "all" s ≡ true → all_of name_byte s ≡ true
unfolding all_of name_byte is_letter is_digit any_of
all_bytes s h = ap (all_of name_byte) (sym (same_equal (bytes "all") s h))
