-- The fold has tested each sum.
use Rattle.std.proofs.Common.{rules, tests}
use Rattle.laws.proofs.Mirrors.{fold_tested}
use Rattle.table_test.specs.Sums.{is_other_sum}
use Rattle.table_test.proofs.is_new_sum.Goals as goal

pub returns : goal.returns
returns c = fold_tested (is_other_sum c.args.sum) c.args.sums.now c.fold.ensures.ran (cc) (λ b x d q k. search (rules, tests))
