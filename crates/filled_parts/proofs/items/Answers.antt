-- The loop: the items before those that are left are there.
use Rattle.paper.specs.Filled.{item_text}
use Rattle.filled_parts.proofs.Loops.{items_begin, walk_room, walk_again, walk_done}
use Rattle.filled_parts.proofs.items.Goals as goal

pub loop-of_item-init : goal.loop-of_item-init
loop-of_item-init g c =
    rw c.into_iter-of_item-iterator.ensures.into_iter_gives
    (items_begin g.met.S.Sink.laws _ c.args.fields _ _ c.each-of_item-items.ensures c.requires.fits)

pub item-requires-clause-fits : goal.item-requires-clause-fits
item-requires-clause-fits g c = walk_room g.met.S.Sink.laws (item_text c.args.access) _ _ c.loop-of_item.of_item-iterator _ c.loop-of_item.invariant _ _ c.in-Some.ensures.steps

pub loop-of_item-preserved : goal.loop-of_item-preserved
loop-of_item-preserved g c = walk_again g.met.S.Sink.laws (item_text c.args.access) _ _ c.loop-of_item.of_item-iterator _ c.loop-of_item.invariant _ _ c.in-Some.ensures.steps _ c.item.ensures

pub returns : goal.returns
returns g c = walk_done g.met.S.Sink.laws (item_text c.args.access) _ _ c.loop-of_item.of_item-iterator _ c.loop-of_item.invariant c.in-None.ensures.steps
