-- The loop: the entries before those that are left are there.
use Rattle.paper.specs.Filled.{entry_text}
use Rattle.filled_parts.proofs.Loops.{entries_begin, walk_room, walk_again, walk_done}
use Rattle.filled_text.proofs.entries.Goals as goal

pub loop-fields-init : goal.loop-fields-init
loop-fields-init g c =
    rw c.into_iter-fields-iterator.ensures.into_iter_gives
    (entries_begin g.met.S.Sink.laws _ _ _ c.entries-fields-items.ensures c.requires)

pub entry-requires : goal.entry-requires
entry-requires g c = walk_room g.met.S.Sink.laws entry_text _ _ c.loop-fields.fields-iterator _ c.loop-fields.invariant _ _ c.in-Some.ensures.steps

pub loop-fields-preserved : goal.loop-fields-preserved
loop-fields-preserved g c = walk_again g.met.S.Sink.laws entry_text _ _ c.loop-fields.fields-iterator _ c.loop-fields.invariant _ _ c.in-Some.ensures.steps _ c.entry.ensures

pub returns : goal.returns
returns g c = walk_done g.met.S.Sink.laws entry_text _ _ c.loop-fields.fields-iterator _ c.loop-fields.invariant c.in-None.ensures.steps
