-- The fault of a value, and of a line, is the first in the order 4, 9, 5.
use mathlib.Core.Path.{◌≡◌, refl, sym, ap, ◌∙◌}
use mathlib.Core.List.{List, [], ◌∷◌}
use mathlib.Core.Bool.{Bool, true, false, cond, not, ◌&&◌, ◌||◌}
use Prim.Native.Nat.{ℕ, zero, suc, ◌+◌}
use native.Mathlib.Omega.{arith}
use lib.Dec.{eqb}
use lib.ListN.{length, drop}
use borrow.Author.Tests.{eqb-true}
use Rattle.paper.specs.Common.{bytes, is_empty, all_of, same, is_one}
use Rattle.paper.specs.Text.{Line, skipped}
use Rattle.paper.specs.declared.Scalar.{Scalar}
use Rattle.paper.specs.Scalars.{is_scalar}
use Rattle.paper.specs.Lists.{bracketed, inside, spaced, elements, list_fault}
use Rattle.paper.specs.declared.Value.{Value}
use Rattle.paper.specs.declared.Value.TheVariants.{Keys, NoneOrItems, AllOrKeys, AllNoneOrItems, One, ListOf, SomeOf, ListOrAll}
use Rattle.paper.specs.Listing.{row_at, key_at, at_block, value_fault}
use Rattle.paper.specs.Page.{State, Field, pass, stop, is_left_empty, one_space_and_value, field_step, after_key, place_step, unless_empty, line_step}
use Rattle.laws.proofs.Tests.{same_equal}
use Rattle.laws_page.specs.Order.{in_order, is_list, value_four, value_nine, value_five, place_in, rest_of, line_four, line_nine, line_five}

-- ---- of a value

-- `[]` is a list, and `all` has no elements
none_list : (v : List ℕ) → bytes "[]" ≡ v → (bracketed v && spaced 0 (inside v)) ≡ false → ◌≡◌ {A = ℕ} 0 1
unfolding bracketed spaced
none_list v e f = let g : true ≡ false = rw (← e) at f in cc

all_list : (s : Scalar) (v : List ℕ) → bytes "all" ≡ v → all_of (is_scalar s) (elements v) ≡ false → ◌≡◌ {A = ℕ} 0 1
unfolding elements bracketed all_of
all_list s v e f = let g : true ≡ false = rw (← e) at f in cc

pub value_order : (k : Value) (v : List ℕ) → value_fault k v ≡ in_order (value_four k v) (value_nine k v) (value_five k v)
unfolding value_fault value_four value_nine value_five in_order is_list list_fault
value_order Keys v = refl
value_order NoneOrItems v = go (same (bytes "[]") v)
  where
    go : (b : Bool) → cond {A = ℕ} b 0 4 ≡ cond (not b) 4 0
    go true = refl
    go false = refl
value_order AllOrKeys v = go (same (bytes "all") v)
  where
    go : (b : Bool) → cond {A = ℕ} b 0 4 ≡ cond (not b) 4 0
    go true = refl
    go false = refl
value_order AllNoneOrItems v = go (is_one ("all" ∷ "[]" ∷ []) v)
  where
    go : (b : Bool) → cond {A = ℕ} b 0 4 ≡ cond (not b) 4 0
    go true = refl
    go false = refl
value_order (One s) v = go (is_scalar s v)
  where
    go : (b : Bool) → cond {A = ℕ} b 0 5 ≡ cond (not b) 5 0
    go true = refl
    go false = refl
value_order (ListOf s) v = go (bracketed v && spaced 0 (inside v)) (all_of (is_scalar s) (elements v))
  where
    go : (a b : Bool) → cond {A = ℕ} a (cond b 0 5) 4 ≡ cond (not a) 4 (cond (not b) 5 0)
    go true true = refl
    go true false = refl
    go false b = refl
value_order (SomeOf s) v = go (same (bytes "[]") v) refl (bracketed v && spaced 0 (inside v)) refl (all_of (is_scalar s) (elements v))
  where
    -- `[]` is a list
    list_none : same (bytes "[]") v ≡ true → (bracketed v && spaced 0 (inside v)) ≡ false → ◌≡◌ {A = ℕ} 0 1
    list_none e f = none_list v (same_equal (bytes "[]") v e) f

    go : (n : Bool) → same (bytes "[]") v ≡ n → (a : Bool) → (bracketed v && spaced 0 (inside v)) ≡ a → (b : Bool)
        → cond {A = ℕ} n 9 (cond a (cond b 0 5) 4) ≡ cond (not a) 4 (cond n 9 (cond (not b) 5 0))
    go true e true f b = refl
    go true e false f b = absurd (let z : ◌≡◌ {A = ℕ} 0 1 = list_none e f in omega arith)
    go false e true f true = refl
    go false e true f false = refl
    go false e false f b = refl
value_order (ListOrAll s) v = go (same (bytes "all") v) refl (bracketed v && spaced 0 (inside v)) (all_of (is_scalar s) (elements v)) refl
  where
    go : (n : Bool) → same (bytes "all") v ≡ n → (a b : Bool) → all_of (is_scalar s) (elements v) ≡ b
        → cond {A = ℕ} n 0 (cond a (cond b 0 5) 4) ≡ cond (not n && not a) 4 (cond (not b) 5 0)
    go true e a true f = refl
    go true e a false f = absurd (let z : ◌≡◌ {A = ℕ} 0 1 = all_list s v (same_equal (bytes "all") v e) f in omega arith)
    go false e true true f = refl
    go false e true false f = refl
    go false e false b f = refl

-- ---- of a line

-- the field of a line, and where its value starts: behind the key, and behind a space where there is a value
abbrev field_on : State → ℕ → Line → Field
field_on st n l =
    record {
      line = n;
      place = place_in st l;
      start = l.start + length (key_at (place_in st l)) + cond (is_empty (rest_of st l)) 0 1;
      value = drop 1 (rest_of st l);
    }

by_tests_lem : (n p a : ℕ) (v : List ℕ) (ended none bare spacious : Bool) (f : ℕ) (four nine five : Bool)
    → (bare ≡ true → v ≡ []) → f ≡ in_order four nine five
    → cond ended
    (cond none (stop 4 n)
    (cond bare (field_step (record { line = n; place = p; start = a; value = [] }) true 0)
    (cond spacious (field_step (record { line = n; place = p; start = a + 1; value = v }) false f) (stop 4 n))))
    (stop 4 n)
    ≡ field_step (record { line = n; place = p; start = a + cond bare 0 1; value = v }) bare
    (in_order (not ended || none || (not bare && (not spacious || four))) (not bare && nine) (not bare && five))
unfolding field_step in_order
by_tests_lem n p a v false none bare spacious f four nine five w e = refl
by_tests_lem n p a v true true bare spacious f four nine five w e = refl
by_tests_lem n p a v true false true spacious f four nine five w e = let q : a + 0 ≡ a = omega arith in rw (w refl, q)
by_tests_lem n p a v true false false true f four nine five w e = ap (field_step (record { line = n; place = p; start = a + 1; value = v }) false) e
by_tests_lem n p a v true false false false f four nine five w e = refl

none_behind : (s : List ℕ) → is_empty s ≡ true → drop 1 s ≡ []
none_behind [] e = refl
none_behind (b ∷ bs) e = absurd (let z : suc (length bs) ≡ 0 = eqb-true (suc (length bs)) 0 e in omega arith)

field_number : (f : Field) (b : Bool) (q k m : ℕ) → field_step f b q ≡ stop k m → k ≡ q
unfolding field_step
field_number f b zero k m e = absurd (let z : ◌≡◌ {A = ℕ} 0 1 = cc in omega arith)
field_number f b (suc q) k m e = cc

field_passes : (f : Field) (b : Bool) (q : ℕ) (st' : State) (fs : List Field) → field_step f b q ≡ pass st' fs → q ≡ 0
unfolding field_step
field_passes f b zero st' fs e = refl
field_passes f b (suc q) st' fs e = absurd (let z : ◌≡◌ {A = ℕ} 0 1 = cc in omega arith)

module _ (st : State) (n : ℕ) (l : Line) (s : skipped l.text ≡ false) (e : is_left_empty st (at_block st.place l.text) ≡ false) where
  -- a line that counts, and leaves no field above it empty, brings the first of 4, 9 and 5 that holds of it, or is a field
  pub line_order : line_step st n l ≡ field_step (field_on st n l) (is_empty (rest_of st l)) (in_order (line_four st l) (line_nine st l) (line_five st l))
  unfolding line_step unless_empty place_step after_key line_four line_nine line_five
  line_order =
      rw (s, e)
      (by_tests_lem n (place_in st l) (l.start + length (key_at (place_in st l))) (drop 1 (rest_of st l)) l.ended (eqb (place_in st l) 0) (is_empty (rest_of st l)) (one_space_and_value (rest_of st l))
      (value_fault (row_at (place_in st l)).value (drop 1 (rest_of st l)))
      (value_four (row_at (place_in st l)).value (drop 1 (rest_of st l)))
      (value_nine (row_at (place_in st l)).value (drop 1 (rest_of st l)))
      (value_five (row_at (place_in st l)).value (drop 1 (rest_of st l)))
      (none_behind (rest_of st l))
      (value_order (row_at (place_in st l)).value (drop 1 (rest_of st l))))

  -- so the fault of such a line is the first in the order
  pub own_first : (k m : ℕ) → line_step st n l ≡ stop k m → k ≡ in_order (line_four st l) (line_nine st l) (line_five st l)
  own_first k m f = field_number _ _ _ k m (sym line_order ∙ f)

  -- and a line that passes so has none of the three
  pub passing_free : (st' : State) (fs : List Field) → line_step st n l ≡ pass st' fs → in_order (line_four st l) (line_nine st l) (line_five st l) ≡ 0
  passing_free st' fs f = field_passes _ _ _ st' fs (sym line_order ∙ f)

-- none in the order is none at all
pub none_of_three : (four nine five : Bool) → in_order four nine five ≡ 0 → (four ≡ false) × (nine ≡ false) × (five ≡ false)
unfolding in_order
none_of_three true nine five e = absurd (let z : ◌≡◌ {A = ℕ} 4 0 = e in omega arith)
none_of_three false true five e = absurd (let z : ◌≡◌ {A = ℕ} 9 0 = e in omega arith)
none_of_three false false true e = absurd (let z : ◌≡◌ {A = ℕ} 5 0 = e in omega arith)
none_of_three false false false e = (refl, refl, refl)
