-- The loop: what is left passes the limit where all of it does, whatever it is that the closure weighs by.
use Rattle.std.proofs.Common.{rules}
use Rattle.file_limits.proofs.Laws.{passes_here, passes_not, passes_nowhere, sum_fits}
use Rattle.file_limits.proofs.passing_line.Goals as goal

pub overflow_add-sum : goal.overflow_add-sum
overflow_add-sum g c = search (rules, sum_fits, c.requires.few)

pub returns-then-most-sum : goal.returns-then-most-sum
returns-then-most-sum g c = λ weigh by.
    passes_here _ _ _ _ _ c.fields-field-items.ensures c.args.fields.ordered c.args.fields.listed weigh _ _ _ _ (c.loop-field.invariant.1 weigh by)
    c.loop-field-test.true _ (by _ _ c.weight-sum.ensures) _ c.if-most-sum.true c.line.ensures

pub loop-field-preserved : goal.loop-field-preserved
loop-field-preserved g c = (
  c.if-most-sum.false,
  λ weigh by.
      passes_not _ _ _ _ _ c.fields-field-items.ensures c.args.fields.ordered c.args.fields.listed weigh _ _ _ _ (c.loop-field.invariant.1 weigh by)
      c.loop-field-test.true _ (by _ _ c.weight-sum.ensures) c.if-most-sum.false,
)

pub returns : goal.returns
returns g c = λ weigh by.
    passes_nowhere _ _ _ _ _ c.fields-field-items.ensures c.args.fields.ordered c.args.fields.listed weigh _ _ _ _ (c.loop-field.invariant.1 weigh by)
    c.loop-field-test.false
