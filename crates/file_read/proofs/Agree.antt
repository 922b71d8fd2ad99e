-- The reader's promise fixes its answer and every word lent to it.
use mathlib.Core.Path.{◌≡◌, sym, ◌∙◌}
use mathlib.Core.List.{List}
use Prim.Native.Nat.{ℕ}
use Rattle.paper.specs.declared.Reading.{Reading}
use Rattle.paper.specs.Promises.{read_answer, read_leaves}

-- any two results that meet the promise are equal, lent words included
pub readings_agree : (t table : List ℕ) (r r' : Reading) (left left' : List ℕ)
    → (r ≡ read_answer t table) × (left ≡ read_leaves t table) → (r' ≡ read_answer t table) × (left' ≡ read_leaves t table) → (r ≡ r') × (left ≡ left')
readings_agree t table r r' left left' p q = (p.0 ∙ sym q.0, p.1 ∙ sym q.1)
