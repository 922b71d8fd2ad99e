-- What a value holds: its sort, and its elements, one more than there are commas.
use mathlib.Core.Path.{◌≡◌, refl, sym, ap, ◌∙◌}
use mathlib.Core.Bool.{Bool, true, false, cond, not, ◌||◌, beq}
use mathlib.Core.List.{List, [], ◌∷◌, map}
use Prim.Native.Nat.{ℕ, suc, ◌+◌, ◌-◌, ◌*◌, ◌^◌, ◌<◌, ◌≤◌}
use native.Mathlib.Omega.{arith}
use mir.Syntax.{w64}
use mir.Val.{Fits}
use lib.Dec.{eqb}
use Rattle.std.specs.Prelude.{count_by}
use Rattle.std.specs.List.{fold}
use lib.ListN.{length, take, drop, length-map, length-take}
use borrow.Author.Tests.{eqb-true, eqb-false, eq-eqb, ne_eqb, lt-ltb, le-ltb}
use Rattle.paper.specs.Common.{is_empty, is, cut, on_piece}
use Rattle.paper.specs.Text.{comma, space}
use Rattle.paper.specs.Scalars.{sort_number, sort_of}
use Rattle.paper.specs.Lists.{bracketed, inside, spaced, unspaced, elements_in, elements}
use Rattle.paper.specs.Rules.{earlier}
use Rattle.laws.proofs.Tests.{both_left, both_right}
use Rattle.file_fields.specs.Fields.{list_spaced}
use Rattle.file_fields.specs.Values.{is_comma, inside_of}

-- ---- the sort

module _ (v : List ℕ) (a : Bool) (p : a ≡ is "all" v) where
  pub says_all : a ≡ true → 0 ≡ sort_number (sort_of v)
  unfolding sort_of sort_number
  says_all h = rw (← p, h) refl

  module _ (h : a ≡ false) (b : Bool) (q : b ≡ is "root" v) where
    pub says_root : b ≡ true → 2 ≡ sort_number (sort_of v)
    unfolding sort_of sort_number
    says_root k = rw (← p, h, ← q, k) refl

    module _ (k : b ≡ false) (d : Bool) (r : d ≡ is "user" v) where
      pub says_user : d ≡ true → 3 ≡ sort_number (sort_of v)
      unfolding sort_of sort_number
      says_user m = rw (← p, h, ← q, k, ← r, m) refl

      pub says_variable : d ≡ false → 1 ≡ sort_number (sort_of v)
      unfolding sort_of sort_number
      says_variable m = rw (← p, h, ← q, k, ← r, m) refl

-- ---- the elements

-- how many commas there are
commas : List ℕ → ℕ
commas [] = 0
commas (b ∷ bs) = cond (eqb b comma) 1 0 + commas bs

module _ (v : List ℕ) (b : Bool) (e : b ≡ bracketed v) where
  pub inside_list : b ≡ true → take (length v - 1 - 1) (drop 1 v) ≡ inside_of v
  unfolding inside_of
  inside_list h = let q : length v - 1 - 1 ≡ length v - 2 = omega arith in rw (← e, h, q) refl

  pub inside_none : b ≡ false → take 0 v ≡ inside_of v
  unfolding inside_of
  inside_none h = rw (← e, h) refl

module _ (v : List ℕ) where
  pub inside_elements : elements_in (inside_of v) ≡ elements v
  unfolding inside_of elements elements_in
  inside_elements = go (bracketed v)
    where
      go : (b : Bool) → cond (is_empty (cond b (inside v) [])) [] (map unspaced (cut comma (cond b (inside v) []))) ≡ cond b (elements_in (inside v)) []
      go true = refl
      go false = refl

  pub inside_spaced : list_spaced v ≡ true → spaced 0 (inside_of v) ≡ true
  unfolding inside_of list_spaced spaced
  inside_spaced h = go (bracketed v) h
    where
      go : (b : Bool) → (not b || spaced 0 (inside v)) ≡ true → spaced 0 (cond b (inside v) []) ≡ true
      go true k = k
      go false k = refl

  inside_shorter : length (inside_of v) ≤ length v - 2
  unfolding inside_of
  inside_shorter = go (bracketed v)
    where
      go : (b : Bool) → length (cond b (inside v) []) ≤ length v - 2
      go true = rw length-take (omega arith)
      go false = omega arith

  pub inside_short : length (inside_of v) ≤ length v
  inside_short = omega (arith, inside_shorter)

pieces_counted : (s : List ℕ) → length (cut comma s) ≡ commas s + 1
unfolding cut commas on_piece
pieces_counted [] = refl
pieces_counted (b ∷ bs) = go (eqb b comma) (cut comma bs) (pieces_counted bs)
  where
    go : (t : Bool) (ps : List (List ℕ)) → length ps ≡ commas bs + 1 → length (cond t ([] ∷ ps) (on_piece b ps)) ≡ cond t 1 0 + commas bs + 1
    go true ps ih = omega arith
    go false [] ih = absurd (omega arith)
    go false (p ∷ ps) ih = omega arith

-- a space stands behind each comma
commas_spaced : (last : ℕ) (s : List ℕ) → spaced last s ≡ true → 2 * commas s + cond (eqb last comma) 1 0 ≤ length s
unfolding spaced commas
commas_spaced last [] h = go (eqb last comma) h
  where
    go : (t : Bool) → not t ≡ true → 2 * 0 + cond t 1 0 ≤ 0
    go true k = absurd (let z : ◌≡◌ {A = ℕ} 0 1 = cc in omega arith)
    go false k = omega arith
commas_spaced last (b ∷ bs) h = go (eqb last comma) (eqb b space) (eqb b comma) refl refl (both_left _ _ h) (commas_spaced b bs (both_right (beq (eqb last comma) (eqb b space)) _ h))
  where
    go : (x y z : Bool) → eqb b space ≡ y → eqb b comma ≡ z → beq x y ≡ true → 2 * commas bs + cond z 1 0 ≤ length bs → 2 * (cond z 1 0 + commas bs) + cond x 1 0 ≤ suc (length bs)
    go true true true e f k ih = absurd (omega (arith, eqb-true b space e, eqb-true b comma f))
    go true true false e f k ih = omega arith
    go true false z e f k ih = absurd (let q : ◌≡◌ {A = ℕ} 0 1 = cc in omega arith)
    go false true z e f k ih = absurd (let q : ◌≡◌ {A = ℕ} 0 1 = cc in omega arith)
    go false false true e f k ih = omega arith
    go false false false e f k ih = omega arith

one_little : (b : Bool) → cond b 1 0 ≤ 1
one_little true = omega arith
one_little false = omega arith

few_commas : (s : List ℕ) → commas s ≤ length s
unfolding commas
few_commas [] = omega arith
few_commas (b ∷ bs) = omega (arith, few_commas bs, one_little (eqb b comma))

-- as a chain counts them
counted_from : (n : ℕ) (s : List ℕ) → fold (λ a b. a + cond (is_comma b) 1 0) n s ≡ n + commas s
unfolding commas
counted_from n [] = omega arith
counted_from n (b ∷ bs) = counted_from (n + cond (is_comma b) 1 0) bs ∙ omega arith

commas_counted : (s : List ℕ) → count_by is_comma s ≡ commas s
commas_counted s = omega (arith, counted_from 0 s)

module _ (v s : List ℕ) (e : s ≡ inside_of v) where
  elements_counted : length (elements v) ≡ cond (is_empty s) 0 (commas s + 1)
  unfolding elements_in
  elements_counted = ap length (sym (inside_elements v)) ∙ rw (← e) (go (is_empty s))
    where
      go : (b : Bool) → length (cond b [] (map unspaced (cut comma s))) ≡ cond b 0 (commas s + 1)
      go true = refl
      go false = length-map (cut comma s) unspaced ∙ pieces_counted s

  few_in_value : list_spaced v ≡ true → 2 * length (elements v) ≤ length v
  few_in_value h = rw elements_counted (go (is_empty s) refl)
    where
      shorter : length s ≤ length v - 2
      shorter = rw e (inside_shorter v)

      spaces : 2 * commas s + 0 ≤ length s
      spaces = commas_spaced 0 s (rw e (inside_spaced v h))

      go : (b : Bool) → is_empty s ≡ b → 2 * cond b 0 (commas s + 1) ≤ length v
      go true q = omega arith
      go false q = omega (arith, spaces, shorter, eqb-false (length s) 0 q)

  pub no_elements : length s ≡ 0 → 0 ≡ length (elements v)
  no_elements h = sym (elements_counted ∙ rw (eq-eqb (length s) 0 h) refl)

  pub some_elements : (n : ℕ) → (length s ≡ 0 → ⊥) → n ≡ count_by is_comma s → n + 1 ≡ length (elements v)
  some_elements n h q = sym (elements_counted ∙ rw (ne_eqb (length s) 0 h, q, commas_counted s) refl)

  module _ (n : ℕ) (c : n ≡ count_by is_comma s) where
    pub few_elements : n + 1 ≤ length v + 1
    few_elements = let q : length s ≤ length v = rw e (inside_short v) in omega (arith, c, commas_counted s, few_commas s)

    pub elements_fit : length v * 1 < 2 ^ 63 → Fits w64 (n + 1)
    elements_fit l = omega (arith, few_elements)

-- an element takes two bytes: no less stands between two commas, and the brackets are two
pub elements_short : (v : List ℕ) → list_spaced v ≡ true → 2 * length (elements v) ≤ length v
elements_short v = few_in_value v (inside_of v) refl

-- ---- the smaller of two lines

module _ (a b : ℕ) where
  pub earlier_second : a ≡ 0 → b ≡ earlier a b
  unfolding earlier
  earlier_second h = rw (eq-eqb a 0 h) refl

  module _ (n : a ≡ 0 → ⊥) where
    pub earlier_first : b ≡ 0 → a ≡ earlier a b
    unfolding earlier
    earlier_first h = rw (ne_eqb a 0 n, eq-eqb b 0 h) refl

    module _ (m : b ≡ 0 → ⊥) where
      pub earlier_less : a < b → a ≡ earlier a b
      unfolding earlier
      earlier_less h = rw (ne_eqb a 0 n, ne_eqb b 0 m, lt-ltb a b h) refl

      pub earlier_not : b ≤ a → b ≡ earlier a b
      unfolding earlier
      earlier_not h = rw (ne_eqb a 0 n, ne_eqb b 0 m, le-ltb a b h) refl
