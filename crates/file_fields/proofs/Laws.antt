-- The list read and written: each loop says what is left of it.
use mathlib.Core.Path.{◌≡◌, refl}
use mathlib.Core.Bool.{Bool, true, false, cond}
use mathlib.Core.List.{List}
use mathlib.Core.Logic.{⊎_elim}
use Prim.Native.Nat.{ℕ, zero, suc, ◌+◌, ◌-◌, ◌*◌, ◌^◌, ◌<◌, ◌≤◌}
use native.Mathlib.Nat.{eq-or-lt_of_le}
use native.Mathlib.Omega.{arith}
use mir.Syntax.{w64}
use mir.Val.{Fits}
use lib.Dec.{eqb}
use lib.ListN.{length}
use borrow.Author.Tests.{eq-eqb, ne_eqb}
use Rattle.file_fields.specs.Fields.{place_in, start_in, end_in, bytes_to, next_at, one_in, count_at}
use Rattle.file_fields.specs.declared.file.FieldAt.{FieldAt}

-- ---- the next field of a place

more_left : (i to : ℕ) → i < to → to - i ≡ suc (to - (i + 1))
more_left i to h = omega arith

none_left : (i to : ℕ) → to ≤ i → to - i ≡ 0
none_left i to h = omega arith

module _ (list : List FieldAt) (place i to n r : ℕ) (q : r ≡ place_in list i) where
  pub next_here : i < to → r ≡ place → next_at list place i (to - i) ≡ n → i ≡ n
  unfolding next_at
  next_here h e inv = rw (more_left i to h, eq-eqb (place_in list i) place (rw q at e)) at inv

  pub next_on : i < to → (r ≡ place → ⊥) → next_at list place i (to - i) ≡ n → next_at list place (i + 1) (to - (i + 1)) ≡ n
  unfolding next_at
  next_on h e inv = rw (more_left i to h, ne_eqb (place_in list i) place (rw q at e)) at inv

module _ (list : List FieldAt) (place i to n : ℕ) where
  pub next_none : to ≤ i → next_at list place i (to - i) ≡ n → i ≡ n
  unfolding next_at
  next_none h inv = rw (none_left i to h) at inv

-- ---- the fields of a place counted

module _ (list : List FieldAt) (place i r : ℕ) (e : r ≡ place_in list i) where
  pub one_here : r ≡ place → 1 ≡ one_in list place i
  one_here h = rw (← e, eq-eqb r place h) refl

  pub one_not : (r ≡ place → ⊥) → 0 ≡ one_in list place i
  one_not h = rw (← e, ne_eqb r place h) refl

pub one_little : (list : List FieldAt) (place i one : ℕ) → one ≡ one_in list place i → one ≤ 1
one_little list place i one e = rw e (go (eqb (place_in list i) place))
  where
    go : (b : Bool) → cond b 1 0 ≤ 1
    go true = omega arith
    go false = omega arith

module _ (list : List FieldAt) (place i from to count one : ℕ) (e : one ≡ one_in list place i) (low : count + from ≤ i) (h : i < to) where
  pub count_low : count + one + from ≤ i + 1
  count_low = omega (arith, one_little list place i one e)

  pub count_fits : length list * 16 < 2 ^ 63 → to ≤ length list → Fits w64 (count + one)
  count_fits l m = omega (arith, one_little list place i one e)

module _ (list : List FieldAt) (place i to count n : ℕ) where
  pub count_on : (one : ℕ) → i < to → one ≡ one_in list place i → count + count_at list place i (to - i) ≡ n → count + one + count_at list place (i + 1) (to - (i + 1)) ≡ n
  unfolding count_at
  count_on one h e inv =
      let q : count + (one_in list place i + count_at list place (i + 1) (to - (i + 1))) ≡ n = rw (more_left i to h) at inv in
      rw e (omega (arith, q))

  pub count_none : to ≤ i → count + count_at list place i (to - i) ≡ n → count ≡ n
  unfolding count_at
  count_none h inv = let q : count + 0 ≡ n = rw (none_left i to h) at inv in omega (arith, q)

-- ---- the bytes of the values, one field more

pub bytes_more : (list : List FieldAt) (n : ℕ) → bytes_to list (n + 1) ≡ bytes_to list n + (end_in list n - start_in list n)
unfolding bytes_to
bytes_more list n = let e : n + 1 ≡ suc n = omega arith in rw e refl

pub bytes_fewer : (list : List FieldAt) (i n : ℕ) → i ≤ n → bytes_to list i ≤ bytes_to list n
unfolding bytes_to
bytes_fewer list i zero h = let e : i ≡ 0 = omega arith in rw e (omega arith)
bytes_fewer list i (suc n) h =
    ⊎_elim
    (λ (e : i ≡ suc n). rw e (omega arith))
    (λ (l : i < suc n). omega (arith, bytes_fewer list i n (omega arith)))
    (eq-or-lt_of_le h)
