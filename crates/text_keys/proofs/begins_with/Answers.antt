-- By the tests: a line that begins with the key is no shorter, and all bytes of the key are looked at.
use Rattle.std.proofs.Common.{rules, arith, ◌+◌, ◌-◌, length}
use Rattle.text_keys.proofs.Fronts.{front_short, front_told, front_unlike, front_alike, alike_on}
use Rattle.text_keys.proofs.begins_with.Goals as goal

pub returns-then-l-n : goal.returns-then-l-n
returns-then-l-n c = search (rules, front_short)

pub returns-then-n-lt8 : goal.returns-then-n-lt8
returns-then-n-lt8 c = search (rules, front_told)

pub returns-then-not-eight_alike : goal.returns-then-not-eight_alike
returns-then-not-eight_alike c = search (rules, front_unlike)

pub returns-then-not-eight_alike-2 : goal.returns-then-not-eight_alike-2
returns-then-not-eight_alike-2 c = search (rules, front_unlike)

pub loop-i-preserved : goal.loop-i-preserved
loop-i-preserved c = (omega arith, alike_on c.args.key.now c.args.l.now c.loop-i.i c.loop-i.i _ c.loop-i.invariant.1 (omega arith) c.if-not-eight_alike-2.ensures)

pub returns : goal.returns
returns c =
    let key = c.args.key.now in
    let all = alike_on key c.args.l.now c.loop-i.i (length key - 8) (length key - 8 + 8) c.loop-i.invariant.1 c.loop-i-test.false c.if-not-eight_alike.ensures in
    front_alike key c.args.l.now (length key - 8 + 8) (omega arith) (omega arith) all
