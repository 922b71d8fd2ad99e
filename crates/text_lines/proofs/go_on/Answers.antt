-- The loop without exit: the bytes before it and those from it on go on exactly when all do.
use Rattle.std.proofs.Common.{◌≡◌, ◌+◌, ◌-◌, arith, refl, ap, ◌∙◌, take, drop}
use Rattle.paper.specs.Common.{all_of}
use Rattle.text_lines.specs.Splits.{goes_on}
use Rattle.text_lines.proofs.Laws.{right_again, right_done}
use Rattle.text_lines.proofs.go_on.Goals as goal

pub loop-b-init : goal.loop-b-init
loop-b-init g c = refl

pub loop-b-preserved : goal.loop-b-preserved
loop-b-preserved g c = right_again goes_on (take (c.args.i + g.row.N - c.args.i) (drop c.args.i c.args.text.now)) c.loop-b.b-index c.loop-b.right c.loop-b.invariant _ c.loop-b-test.true refl

pub returns : goal.returns
returns g c =
    let n : c.args.i + g.row.N - c.args.i ≡ g.row.N = omega arith in
    right_done goes_on (take (c.args.i + g.row.N - c.args.i) (drop c.args.i c.args.text.now)) c.loop-b.b-index c.loop-b.right c.loop-b.invariant c.loop-b-test.false
    ∙ ap (λ n. all_of goes_on (take n (drop c.args.i c.args.text.now))) n
