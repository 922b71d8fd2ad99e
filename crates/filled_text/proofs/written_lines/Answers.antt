-- The loop: the lines of the fields before the next one are there.
use Rattle.filled_text.proofs.Loops.{lines_begin, line_room, lines_again, lines_done}
use Rattle.filled_text.proofs.written_lines.Goals as goal

pub loop-field-init : goal.loop-field-init
loop-field-init g c = lines_begin g.met.S.Sink.laws _ _ c.requires

pub written_line-requires : goal.written_line-requires
written_line-requires g c = line_room g.met.S.Sink.laws _ _ _ c.fields-field-items.ensures _ _ c.loop-field.invariant c.loop-field-test.true

pub loop-field-preserved : goal.loop-field-preserved
loop-field-preserved g c = lines_again g.met.S.Sink.laws _ _ _ c.fields-field-items.ensures _ _ c.loop-field.invariant c.loop-field-test.true _ c.written_line.ensures

pub returns : goal.returns
returns g c = lines_done g.met.S.Sink.laws _ _ _ c.fields-field-items.ensures _ _ c.loop-field.invariant c.loop-field-test.false
