-- The access descriptors of an entry, counted.
use mathlib.Core.Path.{◌≡◌, refl, ◌∙◌}
use mathlib.Core.Bool.{Bool, true, false, cond}
use mathlib.Core.List.{List}
use Prim.Native.Nat.{ℕ, zero, suc, ◌+◌, ◌-◌, ◌≤◌}
use native.Mathlib.Omega.{arith}
use lib.Dec.{eqb}
use Rattle.paper.specs.Common.{bytes, is}
use Rattle.paper.specs.Entries.{value_at, items_of}
use Rattle.paper.specs.Rules.{descriptors_of}
use Rattle.file_fields.specs.Fields.{place_in, between, count_at, value_or}
use Rattle.file_fields.specs.Places.{IsAccess}
use Rattle.file_fields.proofs.Places.{access_default}
use Rattle.file_fields.proofs.Between.{value_or_lem, count_stretches}
use Rattle.file_fields.specs.declared.file.FieldAt.{FieldAt}

module _ (access : ℕ) (which : IsAccess access) where
  module _ (t : List ℕ) (list : List FieldAt) (from to : ℕ) (v : List ℕ) (e : v ≡ value_or (bytes "all") (bytes "[]") access (between t list from to)) (r : Bool) (q : r ≡ is "all" v) where
    -- `all` stands for an omitted one, `[]` for a bare one
    pub access_value : v ≡ value_at access (between t list from to)
    access_value = e ∙ rw (← access_default access which) (value_or_lem access (between t list from to))

    pub one_descriptor : r ≡ true → 1 ≡ descriptors_of access (between t list from to)
    unfolding descriptors_of
    one_descriptor h = rw (← access_value, ← q, h) refl

    pub items_counted : (n : ℕ) → r ≡ false → n ≡ count_at list (access + 1) from (to - from) → n ≡ descriptors_of access (between t list from to)
    unfolding descriptors_of items_of
    items_counted n h f = rw (← access_value, ← q, h) (f ∙ count_stretches t list (access + 1) from to)

count_little : (list : List FieldAt) (place i k : ℕ) → count_at list place i k ≤ k
unfolding count_at
count_little list place i zero = omega arith
count_little list place i (suc k) = go (eqb (place_in list i) place) (count_little list place (i + 1) k)
  where
    go : (b : Bool) → count_at list place (i + 1) k ≤ k → cond b 1 0 + count_at list place (i + 1) k ≤ suc k
    go true h = omega arith
    go false h = omega arith

pub few_items : (list : List FieldAt) (place from to n : ℕ) → n ≡ count_at list place from (to - from) → n ≤ 1 + to
few_items list place from to n e = omega (arith, e, count_little list place from (to - from))
