-- What the program writes, by what the filler answers where 65,536 bytes are lent to it.
use mathlib.Core.Path.{◌≡◌, refl, sym, ap, ◌∙◌}
use mathlib.Core.List.{List, [], ◌∷◌, ◌++◌}
use Prim.Native.Nat.{ℕ, ◌≤◌}
use native.Mathlib.Omega.{arith}
use mir.Syntax.{w16, w32}
use mir.Val.{Fits}
use lib.ListN.{length, drop, length-append}
use Rattle.paper.specs.declared.Filling.{Filling}
use Rattle.paper.specs.declared.Filling.TheVariants.{Written, Unfilled}
use Rattle.paper.specs.Limits.{text_bytes}
use Rattle.paper.specs.Text.{line_feed, space}
use Rattle.paper.specs.Promises.{file_of, filling_of, text_filled, fill_answer, fill_leaves}
use Rattle.paper.specs.Program.{decimal, refusal_line, program_writes, program_size, program_leaves}
use Rattle.laws_filled.proofs.Filler.{Filled, was_filled, refused_untouched}
use Rattle.filled_lines.specs.Wrote.{Wrote}
use Rattle.fill_output.proofs.Decimals.{few_digits}

-- ---- the refusal's line

-- numbers of 16 and of 32 bits have few digits
pub refusal_room : (number line : ℕ) (out : List ℕ) → Fits w16 number → Fits w32 line → length out ≡ text_bytes → length (refusal_line number line) ≤ length out
unfolding refusal_line
refusal_room number line out p q l =
    omega (
      arith,
      length-append (decimal number) (space ∷ (decimal line ++ (line_feed ∷ []))),
      length-append (decimal line) (line_feed ∷ []),
      few_digits 5 number (omega arith),
      few_digits 10 line (omega arith),
    )

-- its parts, as they are written
module _ (number line : ℕ) (old : List ℕ) where
  pub line_room : length (refusal_line number line) ≤ length old → length (decimal number ++ ((space ∷ []) ++ (decimal line ++ (line_feed ∷ [])))) ≤ length old
  unfolding refusal_line
  line_room h = h

  pub line_wrote : (out : List ℕ) (r : ℕ) → Wrote (decimal number ++ ((space ∷ []) ++ (decimal line ++ (line_feed ∷ [])))) old out r
      → Wrote (refusal_line number line) old out r
  unfolding refusal_line
  line_wrote out r w = w

-- ---- what the filler answered

module _ (t out : List ℕ) (f : Filling) (e : f ≡ fill_answer t out) (room : length out ≡ text_bytes) where
  told : f ≡ filling_of text_bytes (file_of t)
  unfolding fill_answer
  told = rw room at e

  module _ (n : ℕ) (q : f ≡ Written n) where
    filled : program_writes t ≡ text_filled (file_of t)
    unfolding program_writes
    filled = rw (← told, q) refl

    pub filled_size : n ≡ program_size t
    unfolding program_size
    filled_size = let w : Filled t out n = was_filled t out n (sym e ∙ q) in rw (filled, w.accepted) (sym w.sized)

    pub filled_leaves : (after : List ℕ) → after ≡ fill_leaves t out → after ≡ program_leaves t out
    unfolding fill_leaves program_leaves
    filled_leaves after h = h ∙ rw (← e, q, ← filled_size, filled) refl

  module _ (k m : ℕ) (q : f ≡ Unfilled k m) where
    refused : program_writes t ≡ refusal_line k m
    unfolding program_writes
    refused = rw (← told, q) refl

    module _ (before after : List ℕ) (r : ℕ) (h : before ≡ fill_leaves t out) (w : Wrote (refusal_line k m) before after r) where
      pub refused_size : r ≡ program_size t
      unfolding program_size
      refused_size = rw refused w.far

      pub refused_leaves : after ≡ program_leaves t out
      unfolding program_leaves program_size
      refused_leaves = rw refused (w.left ∙ rw (h, refused_untouched t out k m (sym e ∙ q)) refl)

-- ---- what was written stands in the output

pub size_within : (t out after : List ℕ) (r : ℕ) → r ≡ program_size t → after ≡ program_leaves t out → r ≤ length after
unfolding program_size program_leaves
size_within t out after r e h = omega (arith, ap length h, length-append (program_writes t) (drop (program_size t) out))
