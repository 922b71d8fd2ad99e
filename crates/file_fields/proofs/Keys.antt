-- The first key of a context: what stands before it has nothing to do with the context.
use mathlib.Core.Path.{◌≡◌, refl, sym, ap, ◌∙◌}
use mathlib.Core.Bool.{Bool, true, false, cond}
use mathlib.Core.Logic.{⊎_elim}
use mathlib.Core.List.{List, ◌∷◌}
use Prim.Native.Nat.{ℕ, zero, suc, ◌+◌, ◌-◌, ◌<◌, ◌≤◌}
use native.Mathlib.Omega.{arith}
use lib.Dec.{eqb}
use borrow.Author.Tests.{ne_eqb, lt-ltb, le-leb}
use Rattle.paper.specs.Page.{Field}
use Rattle.paper.specs.Entries.{value_at}
use Rattle.laws.proofs.Tests.{le_or_lt}
use Rattle.file_fields.specs.Fields.{field_of, place_in, field_at, between, is_key, next_at, next_key}
use Rattle.file_fields.specs.declared.file.FieldAt.{FieldAt}
use Rattle.file_fields.proofs.Between.{between_more}

key_none : (list : List FieldAt) (place i to n : ℕ) → to ≤ i → next_key list place i (to - i) ≡ n → i ≡ n
unfolding next_key
key_none list place i to n h inv = let none : to - i ≡ 0 = omega arith in rw none at inv

module _ (list : List FieldAt) (place key : ℕ) (l : is_key place key ≡ true) where
  no_other : (p : ℕ) → is_key place p ≡ false → eqb p key ≡ false
  no_other p h = ne_eqb p key (λ e. let b : true ≡ false = sym l ∙ ap (is_key place) (sym e) ∙ h in let z : ◌≡◌ {A = ℕ} 0 1 = cc in omega arith)

  skip_next : (k i : ℕ) → next_at list key (next_key list place i k) (i + k - next_key list place i k) ≡ next_at list key i k
  unfolding next_at next_key
  skip_next zero i = let e : i + 0 - i ≡ 0 = omega arith in rw e refl
  skip_next (suc k) i = go (is_key place (place_in list i)) refl (skip_next k (i + 1))
    where
      go : (b : Bool) → is_key place (place_in list i) ≡ b
          → next_at list key (next_key list place (i + 1) k) (i + 1 + k - next_key list place (i + 1) k) ≡ next_at list key (i + 1) k
          → next_at list key (cond b i (next_key list place (i + 1) k)) (i + suc k - cond b i (next_key list place (i + 1) k)) ≡ cond (eqb (place_in list i) key) i (next_at list key (i + 1) k)
      go true e on = let f : i + suc k - i ≡ suc k = omega arith in rw f refl
      go false e on = let f : i + suc k ≡ i + 1 + k = omega arith in rw (f, no_other (place_in list i) e) on

  passed : (t : List ℕ) (i : ℕ) (fs : List Field) → eqb (place_in list i) key ≡ false → value_at key fs ≡ value_at key (field_at t list i ∷ fs)
  unfolding value_at field_of
  passed t i fs h = rw h refl

  skip_value : (t : List ℕ) (k i : ℕ) → value_at key (between t list (next_key list place i k) (i + k)) ≡ value_at key (between t list i (i + k))
  unfolding next_key
  skip_value t zero i = refl
  skip_value t (suc k) i = go (is_key place (place_in list i)) refl (skip_value t k (i + 1))
    where
      go : (b : Bool) → is_key place (place_in list i) ≡ b → value_at key (between t list (next_key list place (i + 1) k) (i + 1 + k)) ≡ value_at key (between t list (i + 1) (i + 1 + k))
          → value_at key (between t list (cond b i (next_key list place (i + 1) k)) (i + suc k)) ≡ value_at key (between t list i (i + suc k))
      go true e on = refl
      go false e on =
          let f : i + suc k ≡ i + 1 + k = omega arith in
          rw (f, between_more t list i (i + 1 + k) (omega arith)) (on ∙ passed t i (between t list (i + 1) (i + 1 + k)) (no_other (place_in list i) e))

-- the keys
module _ (place : ℕ) where
  pub key_at_lem : (key : ℕ) → place < key → key ≤ place + 4 → is_key place key ≡ true
  key_at_lem key h l = rw (lt-ltb place key h, le-leb key (place + 4) l) refl

module _ (t : List ℕ) (list : List FieldAt) (place from to first : ℕ) (e : first ≡ next_key list place from (to - from)) where
  nothing_skipped : to < from → first ≡ from
  nothing_skipped h = e ∙ sym (key_none list place from to _ (omega arith) refl)

  module _ (key : ℕ) (l : is_key place key ≡ true) where
    pub next_skipped : next_at list key first (to - first) ≡ next_at list key from (to - from)
    next_skipped = ⊎_elim
        (λ (h : from ≤ to). let f : from + (to - from) ≡ to = omega arith in rw e (rw f at (skip_next list place key l (to - from) from)))
        (λ (h : to < from). rw (nothing_skipped h) refl)
        (le_or_lt from to)

    pub value_skipped : value_at key (between t list first to) ≡ value_at key (between t list from to)
    value_skipped = ⊎_elim
        (λ (h : from ≤ to). let f : from + (to - from) ≡ to = omega arith in rw e (rw f at (skip_value list place key l t (to - from) from)))
        (λ (h : to < from). rw (nothing_skipped h) refl)
        (le_or_lt from to)
