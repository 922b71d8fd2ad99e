-- The loop: every byte before it may stand and every byte from it on, where all may.
use Rattle.std.proofs.Common.{arith, rules}
use Rattle.text_lines.proofs.Laws.{stand_again, stand_last, stand_none}
use Rattle.text_lines.proofs.has_bad_byte.Goals as goal

pub loop-i-preserved : goal.loop-i-preserved
loop-i-preserved c = search (rules, stand_again)

pub returns-in-len1-up : goal.returns-in-len1-up
returns-in-len1-up c = stand_last c.args.text.now c.loop-i.i _ c.loop-i.invariant _ c.in-len1-up.len_at_least (omega arith) c.may_stand.ensures

pub returns : goal.returns
returns c = stand_none c.args.text.now c.loop-i.i _ c.loop-i.invariant (omega arith)
