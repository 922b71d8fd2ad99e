-- The loop without exit: so far all bytes are alike, or the line doesn't begin with the key.
use Rattle.std.proofs.Common.{◌≡◌, ◌+◌, false}
use Rattle.std.specs.Prelude.{MatchBool}
use Rattle.paper.specs.Common.{is_front_of}
use Rattle.text_keys.specs.Asked.{Alike}
use Rattle.text_keys.proofs.eight_alike.Given as goal

abbrev pub invariant-loop-k : goal.invariant-loop-k
invariant-loop-k l = MatchBool l.alike (Alike l.key l.l l.i (l.i + l.k)) (is_front_of l.key l.l ≡ false)
