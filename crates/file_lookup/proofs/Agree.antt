-- The promise of name lookup fixes where its answer lies and what it holds.
use mathlib.Core.Path.{◌≡◌, refl, sym, ◌∙◌}
use mathlib.Core.List.{List}
use Prim.Native.Nat.{ℕ}
use Rattle.paper.specs.declared.Map.{Map}
use Rattle.paper.specs.Lookup.{Stretch, VeryStretch}
use Rattle.paper.specs.Promises.{lookup_answer}

-- any two results that are one very stretch of what was lent are equal: the block, the place in it and the bytes
one_stretch : (lent lies lies' : ℕ × ℕ) (held held' : List ℕ) (s : Stretch)
    → VeryStretch lent lies held s → VeryStretch lent lies' held' s → (lies ≡ lies') × (held ≡ held')
unfolding VeryStretch
one_stretch lent lies lies' held held' s p q =
    let place : ◌≡◌ {A = ℕ × ℕ} (lies.0, lies.1) (lies'.0, lies'.1) = rw (p.0, p.1, q.0, q.1) refl in
    (place, p.2 ∙ sym q.2)

-- any two results that meet the promise of name lookup are equal
pub names_agree : (t : List ℕ) (which : Map) (d : ℕ) (lent lies lies' : ℕ × ℕ) (held held' : List ℕ)
    → VeryStretch lent lies held (lookup_answer t which d) → VeryStretch lent lies' held' (lookup_answer t which d) → (lies ≡ lies') × (held ≡ held')
names_agree t which d lent lies lies' held held' p q = one_stretch lent lies lies' held held' (lookup_answer t which d) p q
