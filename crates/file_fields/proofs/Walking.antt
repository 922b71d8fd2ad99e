-- The stretches one after the other: each begins at a field of its place and ends at the next one, which the walk stands at then.
use mathlib.Core.Path.{◌≡◌, refl}
use mathlib.Core.Logic.{⊎_elim}
use mathlib.Core.List.{List, [], ◌∷◌}
use Prim.Native.Nat.{ℕ, zero, suc, ◌+◌, ◌-◌, ◌<◌, ◌≤◌}
use native.Mathlib.Omega.{arith}
use lib.ListN.{length}
use borrow.Author.Tests.{eq-eqb}
use Rattle.paper.specs.Entries.{stretches_from}
use Rattle.laws.proofs.Tests.{le_or_lt}
use Rattle.file_fields.specs.Fields.{place_in, between, next_at}
use Rattle.file_fields.proofs.Between.{between_none, next_from, next_within, next_at_place, stretches_next, stretch_more}
use Rattle.file_fields.specs.declared.file.FieldAt.{FieldAt}

-- number i is that of a field of the place, or the end
pub record Walked (list : List FieldAt) (p i to : ℕ) : Type 0 where
  pub within : i ≤ to
  pub stands : next_at list p i (to - i) ≡ i

next_itself : (list : List FieldAt) (p i k : ℕ) → place_in list i ≡ p → next_at list p i k ≡ i
unfolding next_at
next_itself list p i zero h = refl
next_itself list p i (suc k) h = rw (eq-eqb (place_in list i) p h) refl

next_nothing : (list : List FieldAt) (p i to : ℕ) → to ≤ i → next_at list p i (to - i) ≡ i
unfolding next_at
next_nothing list p i to h = let e : to - i ≡ 0 = omega arith in rw e refl

module _ (list : List FieldAt) (p from to next : ℕ) where
  -- the walk stands at a field of the place, or at the end
  pub walk_stands : next ≡ next_at list p from (to - from) → next_at list p next (to - next) ≡ next
  walk_stands e =
      ⊎_elim
      (λ (k : to ≤ next). next_nothing list p next to k)
      (λ (k : next < to). next_itself list p next (to - next) (rw (← e) at (next_at_place [] list p from to (rw e at k))))
      (le_or_lt to next)

  pub walked : from ≤ to → next ≡ next_at list p from (to - from) → Walked list p next to
  walked h e = record { within = rw e (next_within [] list p from to h); stands = walk_stands e }

  -- before the first stretch there is none
  pub stretches_first : (t : List ℕ) → from ≤ to → next ≡ next_at list p from (to - from) → stretches_from p (between t list from to) ≡ stretches_from p (between t list next to)
  stretches_first t h e = rw e (stretches_next t list p from to h)

module _ (list : List FieldAt) (p i to : ℕ) where
  pub walked_place : Walked list p i to → i < to → place_in list i ≡ p
  walked_place w h = let s : next_at list p i (to - i) ≡ i = w.stands in rw s at (next_at_place [] list p i to (rw s h))

  module _ (j : ℕ) (e : j ≡ next_at list p (i + 1) (to - (i + 1))) where
    pub walk_on : i + 1 ≤ j
    walk_on = rw e (next_from [] list p (i + 1) (to - (i + 1)))

    pub walk_order : i ≤ j
    walk_order = omega (arith, walk_on)

    pub walk_within : i < to → j ≤ to
    walk_within h = rw e (next_within [] list p (i + 1) to (omega arith))

    pub walk_to_end : i ≤ to → (i ≡ to → ⊥) → j ≤ to
    walk_to_end h n = walk_within (omega (arith, n))

    pub walk_listed : i ≤ to → (i ≡ to → ⊥) → to ≤ length list → j ≤ length list
    walk_listed h n l = omega (arith, walk_to_end h n)

    -- the way gets shorter
    pub walk_less : i < to → to - j < to - i
    walk_less h = omega (arith, walk_on, walk_within h)

    -- a stretch, and those behind it
    pub stretches_more : (t : List ℕ) → Walked list p i to → i < to → stretches_from p (between t list i to) ≡ between t list i j ∷ stretches_from p (between t list j to)
    stretches_more t w h = rw e (stretch_more t list p i to h (walked_place w h))

  pub stretches_none : (t : List ℕ) → to ≤ i → stretches_from p (between t list i to) ≡ []
  unfolding stretches_from
  stretches_none t h = rw (between_none t list i to h) refl
