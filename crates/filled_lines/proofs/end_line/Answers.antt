-- The value, then the end of the line.
use Rattle.std.proofs.Common.{rules}
use Rattle.filled_lines.proofs.Writing.{first_room, last_room, both_wrote}
use Rattle.filled_lines.proofs.end_line.Goals as goal

pub put-end-requires : goal.put-end-requires
put-end-requires c = search (rules, first_room)

pub put_byte-requires : goal.put_byte-requires
put_byte-requires c = search (rules, last_room)

pub returns : goal.returns
returns c = search (rules, both_wrote)
