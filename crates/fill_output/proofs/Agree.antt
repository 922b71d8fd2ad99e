-- The promise of the program's output fixes how many bytes there are, and every byte lent.
use mathlib.Core.Path.{◌≡◌, sym, ◌∙◌}
use mathlib.Core.List.{List}
use Prim.Native.Nat.{ℕ}
use Rattle.paper.specs.Program.{program_size, program_leaves}

pub outputs_agree : (t out left left' : List ℕ) (n n' : ℕ) → (n ≡ program_size t) × (left ≡ program_leaves t out) → (n' ≡ program_size t) × (left' ≡ program_leaves t out)
    → (n ≡ n') × (left ≡ left')
outputs_agree t out left left' n n' a b = (a.0 ∙ sym b.0, a.1 ∙ sym b.1)
