-- Past the end nothing stands.
use Rattle.std.proofs.Common.{arith, ◌≤◌, length, ap, ◌∙◌, eqb}
use Rattle.std.proofs.lemmas.Grind.{common_steps}
use Rattle.paper.specs.Text.{comma}
use Rattle.text_lists.proofs.Reading.{ends_past, ends_is}
use Rattle.text_lists.proofs.element_ends.Goals as goal

pub returns-in-None : goal.returns-in-None
returns-in-None c =
    let past : length c.args.s.now ≤ c.args.i = grind (arith, common_steps) in
    ends_past c.args.s.now c.args.i past

pub returns-in-Some : goal.returns-in-Some
returns-in-Some c =
    let read = c.in-Some.ensures.lookup.3 in
    ap (λ b. eqb b comma) (read.1 0) ∙ ends_is c.args.s.now c.args.i read.0
