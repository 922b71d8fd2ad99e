-- The loop: no pair before row i clashes, and the words past the witness are kept.
use Rattle.overlap.specs.Told.{NoneBefore, PastKept}
use Rattle.overlap.proofs.formed.Formed.first_clash.Given as goal

abbrev pub invariant-loop-i : goal.invariant-loop-i
invariant-loop-i l = PastKept l.initial.witness l.witness × NoneBefore l.self.words.now l.i 0
