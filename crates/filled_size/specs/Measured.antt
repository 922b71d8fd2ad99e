-- Texts measured one behind the other.
use Rattle.std.specs.Prelude.{◌≡◌, ℕ, ◌+◌, List, length}
use native.Mathlib.Omega.{arith}
use mir.Syntax.{w64}
use mir.Val.{Fits}
use lib.ListN.{length-append}
use Rattle.filled_lines.specs.Sinks.{SinkLaws}
use Rattle.filled_size.specs.declared.Measure.{Measure}

-- with a text more, the size is no larger than a number can be
abbrev pub countable : Measure → List ℕ → Type 0
countable m x = Fits w64 (m.size + length x)

-- a text was measured
abbrev pub Measured : Measure → List ℕ → Measure → Type 0
Measured m x n = n.size ≡ m.size + length x

-- a measure is a sink
pub measure_laws : SinkLaws countable Measured
measure_laws = record {
  nothing = λ s h. omega arith;
  first = λ s x y h. omega (arith, h, length-append x y);
  rest = λ s m x y h p. omega (arith, h, length-append x y, p);
  both = λ s m e x y p q. omega (arith, length-append x y, p, q);
}
