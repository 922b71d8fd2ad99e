-- A byte is below 256: so neither product nor sum is too large.
use Rattle.std.proofs.Common.{arith, refl, ◌+◌}
use Rattle.file_index.proofs.Steps.{byte_product}
use Rattle.file_index.proofs.two_at.Goals as goal

pub overflow_cast-result : goal.overflow_cast-result
overflow_cast-result c = omega (arith, c.shared_slice_known-1.given c.args.i)

pub overflow_mul-result : goal.overflow_mul-result
overflow_mul-result c = omega (arith, byte_product _ c.args.step (c.shared_slice_known-1.given c.args.i) c.requires.1)

pub overflow_cast-result-2 : goal.overflow_cast-result-2
overflow_cast-result-2 c = omega (arith, c.shared_slice_known-2-1.given (c.args.i + 1))

pub overflow_add-result-2 : goal.overflow_add-result-2
overflow_add-result-2 c = let args = c.args in
    omega (arith, byte_product _ args.step (c.shared_slice_known-1.given args.i) c.requires.1, c.shared_slice_known-2-1.given (args.i + 1))

pub returns : goal.returns
returns c = let args = c.args in (
  refl,
  omega (arith, byte_product _ args.step (c.shared_slice_known-1.given args.i) c.requires.1, c.shared_slice_known-2-1.given (args.i + 1)),
)
