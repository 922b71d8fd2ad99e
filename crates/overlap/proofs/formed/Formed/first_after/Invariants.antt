-- The loop: no pair before i and j clashes, and the words past the witness are kept.
use Rattle.overlap.specs.Told.{NoneBefore, PastKept}
use Rattle.overlap.proofs.formed.Formed.first_after.Given as goal

abbrev pub invariant-loop-j : goal.invariant-loop-j
invariant-loop-j l = PastKept l.initial.witness l.witness × NoneBefore l.self.words.now l.i l.j
