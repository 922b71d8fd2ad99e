-- The loop without exit: so far all bytes are alike, or the line doesn't begin with the key.
use Rattle.std.proofs.Common.{refl, arith}
use Rattle.text_keys.proofs.Fronts.{alike_more}
use Rattle.text_keys.proofs.eight_alike.Goals as goal

pub loop-k-preserved : goal.loop-k-preserved
loop-k-preserved c = alike_more c.args.key.now c.args.l.now c.args.i c.loop-k.k c.loop-k.alike _ c.loop-k.invariant (omega arith) refl
