-- The key of its row.
use Rattle.std.proofs.Common.{rules}
use Rattle.filled_lines.proofs.Lines.{key_of_room, key_of_wrote}
use Rattle.filled_lines.proofs.key_at.Goals as goal

pub put_key-requires : goal.put_key-requires
put_key-requires c = search (rules, key_of_room)

pub returns : goal.returns
returns c = search (rules, key_of_wrote)
