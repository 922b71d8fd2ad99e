-- The loop: the bytes that pass end from i on where they end from `at` on.
use Rattle.std.proofs.Common.{arith}
use Rattle.text_bytes.proofs.Table.{run_ends, run_stops, run_one, run_here, run_next, run_again}
use Rattle.text_bytes.proofs.part_end.Goals as goal

pub returns-then-not-has : goal.returns-then-not-has
returns-then-not-has g c = run_here g.B.PartBytes.test c.args.s.now c.args.at c.loop-i.i c.loop-i.invariant.1 c.loop-i-test.true c.has.result c.has.ensures c.if-not-has.true

pub returns-then-not-has-2 : goal.returns-then-not-has-2
returns-then-not-has-2 g c =
    run_next g.B.PartBytes.test c.args.s.now c.args.at c.loop-i.i c.loop-i.invariant.1 c.loop-i-test.true c.has.result c.has.ensures c.if-not-has.false _ c.has-in-loop-i.ensures
    c.if-not-has-2.true

pub loop-i-preserved : goal.loop-i-preserved
loop-i-preserved g c = (
  c.loop-i-test.true,
  run_again g.B.PartBytes.test c.args.s.now c.args.at c.loop-i.i c.loop-i.invariant.1 c.loop-i-test.true c.has.result c.has.ensures c.if-not-has.false _ c.has-in-loop-i.ensures
      c.if-not-has-2.false,
)

pub returns-then-s-i : goal.returns-then-s-i
returns-then-s-i g c = run_ends g.B.PartBytes.test c.args.s.now c.args.at c.loop-i.i c.loop-i.invariant.1 c.if-s-i.true

pub returns-then-has : goal.returns-then-has
returns-then-has g c = run_one g.B.PartBytes.test c.args.s.now c.args.at c.loop-i.i c.loop-i.invariant.1 _ (omega arith) (omega arith) c.has-2.ensures c.if-has.true

pub returns : goal.returns
returns g c = run_stops g.B.PartBytes.test c.args.s.now c.args.at c.loop-i.i c.loop-i.invariant.1 (omega arith) _ c.has-2.ensures c.if-has.false
