-- A thing whose name is a value.
use Rattle.std.proofs.Common.{rules}
use Rattle.file_things.proofs.Things.{name_asked, name_put}
use Rattle.file_things.proofs.put_name.Goals as goal

pub put_thing-requires : goal.put_thing-requires
put_thing-requires c = search (rules, name_asked)

pub returns : goal.returns
returns c = search (rules, name_put)
