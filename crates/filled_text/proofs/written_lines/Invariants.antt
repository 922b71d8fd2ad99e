-- The loop: the lines of the fields before the next one are there.
use Rattle.filled_text.proofs.Loops.{Written}
use Rattle.filled_text.proofs.written_lines.Given as goal

abbrev pub invariant-loop-field : goal.invariant-loop-field
invariant-loop-field g l = Written g.S.Sink.Fits g.S.Sink.Put l.fields l.field-index l.initial.sink l.sink
