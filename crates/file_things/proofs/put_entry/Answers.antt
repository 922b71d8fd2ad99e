-- Named by the field behind, if there is one.
use Rattle.file_things.proofs.Things.{entry_asked, entry_put, nameless_asked, nameless_put}
use Rattle.file_things.proofs.put_entry.Goals as goal

pub put_name-requires : goal.put_name-requires
put_name-requires c = entry_asked _ _ _ _ c.in-Some.ensures.lookup.3.0 _ c.in-Some.ensures.lookup.1 c.requires.writable

pub put_thing-requires : goal.put_thing-requires
put_thing-requires c = nameless_asked _ _ _ _ c.in-None.ensures.lookup.3 _ c.line.ensures c.requires.writable

pub returns-in-Some : goal.returns-in-Some
returns-in-Some c = entry_put _ _ _ _ c.in-Some.ensures.lookup.3.0 _ c.in-Some.ensures.lookup.1 _ _ c.put_name.ensures

pub returns-in-None : goal.returns-in-None
returns-in-None c = nameless_put _ _ _ _ c.in-None.ensures.lookup.3 _ c.line.ensures _ _ c.put_thing.ensures
