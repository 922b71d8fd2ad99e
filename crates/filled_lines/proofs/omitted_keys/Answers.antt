-- Its bytes are the lines.
use Rattle.std.proofs.Common.{rules}
use Rattle.filled_lines.proofs.Omitted.{bytes_room, bytes_wrote}
use Rattle.filled_lines.proofs.omitted_keys.Goals as goal

pub put-requires : goal.put-requires
put-requires c = search (rules, bytes_room)

pub returns : goal.returns
returns c = search (rules, bytes_wrote)
