-- How long a line is: its key, and its value between a space and LF.
use mathlib.Core.Path.{◌≡◌, ap, ◌∙◌}
use mathlib.Core.List.{List, [], ◌∷◌, ◌++◌}
use Prim.Native.Nat.{ℕ, ◌+◌}
use native.Mathlib.Omega.{arith}
use mir.Syntax.{w64}
use mir.Val.{Fits}
use lib.ListN.{length, length-append}
use Rattle.paper.specs.Text.{line_feed, space}
use Rattle.paper.specs.Listing.{row_at, key_at}
use Rattle.paper.specs.Filled.{key_line, bare_line}
use Rattle.text_keys.specs.Rows.{key_text, seen, told}
use Rattle.text_keys.specs.declared.rows.Row.{Row}
use Rattle.text_keys.proofs.Looks.{key_of}
use Rattle.filled_lines.specs.Omitted.{omitted_keys, omitted_size}
use Rattle.filled_lines.proofs.Omitted.{omitted_length}

module _ (place : ℕ) (row : Row) (k : ℕ) (e : seen row ≡ told (row_at place)) (f : k ≡ length (key_text row.key)) where
  key_length : k ≡ length (key_at place)
  key_length = f ∙ ap length (key_of place row e)

  bare_length : k + 1 ≡ length (bare_line place)
  unfolding bare_line
  bare_length = omega (arith, key_length, length-append (key_at place) (line_feed ∷ []))

  line_length : (v : List ℕ) → k + length v + 2 ≡ length (key_line place v)
  unfolding key_line
  line_length v = omega (arith, key_length, length-append (key_at place) (space ∷ (v ++ (line_feed ∷ []))), length-append v (line_feed ∷ []))

  module _ (size : ℕ) where
    pub bare_counts : Fits w64 (size + length (bare_line place)) → Fits w64 (size + (k + 1))
    bare_counts h = omega (arith, h, bare_length)

    pub bare_measured : size + (k + 1) ≡ size + length (bare_line place)
    bare_measured = ap (λ n. size + n) bare_length

    pub line_counts : (v : List ℕ) → Fits w64 (size + length (key_line place v)) → Fits w64 (size + (k + length v + 2))
    line_counts v h = omega (arith, h, line_length v)

    pub line_measured : (v : List ℕ) → size + (k + length v + 2) ≡ size + length (key_line place v)
    line_measured v = ap (λ n. size + n) (line_length v)

-- the keys of a context that has none of them
module _ (size : ℕ) where
  pub omitted_counts : Fits w64 (size + length omitted_keys) → Fits w64 (size + omitted_size)
  omitted_counts h = omega (arith, h, omitted_length)

  pub omitted_measured : size + omitted_size ≡ size + length omitted_keys
  omitted_measured = omega (arith, omitted_length)
