-- The loop without exit: the bytes before it and those from it on, behind the byte before it, are spaced exactly when all of s is.
use Rattle.std.proofs.Common.{rules, arith}
use Rattle.text_lists.proofs.Laws.{spaced_none, spaced_starts, spaced_again, spaced_told}
use Rattle.text_lists.proofs.spaced.Goals as goal

pub returns-in_default : goal.returns-in_default
returns-in_default c = spaced_none c.args.s.now (omega arith)

pub loop-i-init : goal.loop-i-init
loop-i-init c = spaced_starts c.args.s.now (λ z. omega arith)

pub loop-i-preserved : goal.loop-i-preserved
loop-i-preserved c = search (rules, spaced_again)

pub returns : goal.returns
returns c = spaced_told c.args.s.now c.loop-i.i _ c.loop-i.invariant (omega arith)
