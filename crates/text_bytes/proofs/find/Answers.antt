-- The place that is found among what is left.
use Rattle.std.proofs.Common.{arith, ◌≡◌, ◌+◌, drop, ap, ◌∙◌}
use Rattle.std.proofs.lemmas.Grind.{common_steps}
use Rattle.laws.specs.Pieces.{before}
use Rattle.laws.proofs.Library.{position_before}
use Rattle.text_bytes.proofs.find.Goals as goal

pub returns : goal.returns
returns c =
    let s = c.unwrap_or-rest.result.now in
    let rest : s ≡ drop c.args.at c.args.s.now = grind (arith, common_steps) in
    ap (λ n. c.args.at + n) (position_before c.args.c s c.unwrap_or.result c.place_of.result c.unwrap_or.ensures c.place_of.ensures ∙ ap (before c.args.c) rest)
