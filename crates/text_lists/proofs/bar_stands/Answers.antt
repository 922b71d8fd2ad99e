-- Past the end nothing stands.
use Rattle.std.proofs.Common.{arith, ◌≤◌, length, ap, ◌∙◌, eqb}
use Rattle.std.proofs.lemmas.Grind.{common_steps}
use Rattle.paper.specs.Text.{bar}
use Rattle.text_lists.proofs.Reading.{bar_past, bar_is}
use Rattle.text_lists.proofs.bar_stands.Goals as goal

pub returns-in-None : goal.returns-in-None
returns-in-None c =
    let past : length c.args.s.now ≤ c.args.i = grind (arith, common_steps) in
    bar_past c.args.s.now c.args.i past

pub returns-in-Some : goal.returns-in-Some
returns-in-Some c =
    let read = c.in-Some.ensures.lookup.3 in
    ap (λ b. eqb b bar) (read.1 0) ∙ bar_is c.args.s.now c.args.i read.0
