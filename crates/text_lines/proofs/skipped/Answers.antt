-- Past the column stands nothing, or a byte that is `#` or not.
use Rattle.std.proofs.Common.{arith, ◌≤◌, length, ap, ◌∙◌, eqb}
use Rattle.std.proofs.lemmas.Grind.{common_steps}
use Rattle.text_lines.proofs.Laws.{skipped_blank, skipped_else}
use Rattle.text_lines.proofs.skipped.Goals as goal

pub returns-in-None : goal.returns-in-None
returns-in-None c =
    let past : length c.args.l.now ≤ c.column.result = grind (arith, common_steps) in
    skipped_blank c.args.l.now c.column.result c.column.ensures.0 past

pub returns-in-Some : goal.returns-in-Some
returns-in-Some c =
    let read = c.in-Some.ensures.lookup.3 in
    ap (λ b. eqb b 35) (read.1 0) ∙ skipped_else c.args.l.now c.column.result c.column.ensures.0 read.0
