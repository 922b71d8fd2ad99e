-- The look for a line's place among several.
use mathlib.Core.Path.{◌≡◌, refl, sym, ap, ◌∙◌}
use mathlib.Core.Bool.{Bool, true, false, cond, not, ◌&&◌, ◌||◌, or-true}
use mathlib.Core.List.{List, [], ◌∷◌}
use Prim.Native.Nat.{ℕ, zero, suc, ◌+◌, ◌-◌, ◌<◌, ◌≤◌}
use native.Mathlib.Nat.{not-suc-le-zero}
use native.Mathlib.Numerals.{add-one}
use native.Mathlib.Omega.{arith}
use lib.Dec.{eqb}
use lib.ListN.{length, get_or, take, drop, length-drop, drop_of_length-le}
use lib.Seq.{take_all, drop-cons}
use borrow.Author.Tests.{eq-eqb, eqb-true, not-true, not-false}
use Rattle.std.specs.Prelude.{Some, None}
use Rattle.std.specs.List.{starts_with, slice_get}
use Rattle.paper.specs.Common.{bytes, is_front_of, any_of}
use Rattle.paper.specs.Text.{column}
use Rattle.paper.specs.Listing.{nowhere, row_at, key_at, dashed, alongside, begins_block}
use Rattle.paper.specs.Page.{place_of}
use Rattle.text_lines.proofs.Laws.{column_within}
use Rattle.text_keys.specs.Rows.{Said, key_text, seen, told}
use Rattle.text_keys.specs.declared.rows.Row.{Row}
use Rattle.text_keys.specs.declared.rows.Key.{Key}
use Rattle.text_keys.specs.Asked.{Finds}
use Rattle.text_keys.proofs.Fronts.{front_is, front_within}

-- the row that the code found has the key of the place
pub key_of : (p : ℕ) (r : Row) → seen r ≡ told (row_at p) → key_text r.key ≡ key_at p
unfolding key_at
key_of p r e = ap (λ (s : Said). s.key) e

-- what follows the spaces is the part of the line from its column on
pub dashed_is : (l : List ℕ) (k : ℕ) (r : Bool) → k ≡ column l → r ≡ starts_with eqb (take (length l - k) (drop k l)) (bytes "- ") → r ≡ dashed l
unfolding dashed
dashed_is l k r e f =
    f
    ∙ front_is (bytes "- ") (take (length l - k) (drop k l))
    ∙ ap (is_front_of (bytes "- ")) (take_all (length l - k) (drop k l) (omega (arith, length-drop k l)))
    ∙ ap (λ (n : ℕ). is_front_of (bytes "- ") (drop n l)) e

-- a key that is known by its name
pub stands_of : (key k : Key) → key ≡ k → (m n : ℕ) (b d : Bool) → m ≡ n → b ≡ d → n ≡ column (key_text k) → d ≡ dashed (key_text k)
    → (m ≡ column (key_text key)) × (b ≡ dashed (key_text key))
stands_of key k e m n b d em eb ek ed = rw e (em ∙ ek, eb ∙ ed)

-- a line stands as a key does
module _ (l : List ℕ) (k : ℕ) (d t : Bool) (e : t ≡ eqb (column l) k) where
  pub stands_away : not t ≡ true → false ≡ (eqb (column l) k && (not d || dashed l))
  stands_away n = let f : eqb (column l) k ≡ false = sym e ∙ not-true t n in rw f refl

  module _ (h : not t ≡ false) where
    stands_there : eqb (column l) k ≡ true
    stands_there = sym e ∙ not-false t h

    pub stands_within : k ≤ length l
    stands_within = omega (arith, eqb-true (column l) k stands_there, column_within l)

    pub stands_plain : not d ≡ true → not d ≡ (eqb (column l) k && (not d || dashed l))
    stands_plain n = rw (stands_there, n) refl

    pub stands_dashed : (r : Bool) → not d ≡ false → r ≡ starts_with eqb (take (length l - k) (drop k l)) (bytes "- ") → r ≡ (eqb (column l) k && (not d || dashed l))
    stands_dashed r n f = rw (stands_there, n) (dashed_is l k r (sym (eqb-true (column l) k stands_there)) f)

-- ---- the block that begins with the first of some places

-- the key that the code reads is the place's
module _ (p : ℕ) (row : Row) (e : seen row ≡ told (row_at p)) where
  read_key : (key : List ℕ) → key ≡ key_text row.key → key ≡ key_at p
  read_key key ek = ek ∙ key_of p row e

  pub block_some : (places l : List ℕ) (r : Bool) (k : ℕ) (d : Bool) → Some p ≡ slice_get places 0 → k ≡ column (key_text row.key) → d ≡ dashed (key_text row.key)
      → r ≡ (eqb (column l) k && (not d || dashed l)) → r ≡ begins_block places l
  unfolding begins_block alongside
  block_some [] l r k d q ek ed f = absurd (cc)
  block_some (x ∷ xs) l r k d q ek ed f = let z : p ≡ x = cc in rw (← z, ← key_of p row e, ← ek, ← ed) f

pub block_none : (places l : List ℕ) → None ≡ slice_get places 0 → false ≡ begins_block places l
unfolding begins_block
block_none [] l q = refl
block_none (x ∷ xs) l q = absurd (cc)

-- ---- the look for a line's place: the places that are left find what all of them find

stands_among : (places : List ℕ) (i : ℕ) → i < length places → any_of (eqb (get_or places i 0)) places ≡ true
unfolding any_of
stands_among [] i h = absurd (not-suc-le-zero h)
stands_among (x ∷ xs) zero h = rw (eq-eqb x x refl)
stands_among (x ∷ xs) (suc i) h = rw (stands_among xs i (omega arith)) (or-true (eqb (get_or xs i 0) x))

module _ (places l : List ℕ) (i : ℕ) where
  module _ (h : i < length places) (inv : place_of (drop i places) l ≡ place_of places l) (row : Row) (key : List ℕ) (r : Bool)
      (e : seen row ≡ told (row_at (get_or places i 0))) (ek : key ≡ key_text row.key) (er : r ≡ is_front_of key l) where
    same_key : key ≡ key_at (get_or places i 0)
    same_key = read_key (get_or places i 0) row e key ek

    by_first : cond (is_front_of key l) (get_or places i 0) (place_of (drop (i + 1) places) l) ≡ place_of places l
    unfolding place_of
    by_first = sym (sym inv ∙ rw (add-one, drop-cons places i 0, same_key))

    pub place_found : r ≡ true → Finds places l (Some (record { place = get_or places i 0; length = length key }))
    place_found t =
        let f : is_front_of key l ≡ true = sym er ∙ t in
        (rw f at by_first, stands_among places i h, ap length same_key, front_within key l f)

    pub place_again : r ≡ false → place_of (drop (i + 1) places) l ≡ place_of places l
    place_again t = let f : is_front_of key l ≡ false = sym er ∙ t in rw f at by_first

  pub place_spent : place_of (drop i places) l ≡ place_of places l → length places ≤ i → place_of places l ≡ nowhere
  unfolding place_of
  place_spent inv h = sym inv ∙ rw (drop_of_length-le places h) refl
