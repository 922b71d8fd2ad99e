-- The key, then the end of the line.
use Rattle.std.proofs.Common.{rules}
use Rattle.filled_lines.proofs.Writing.{first_room, last_room, both_wrote}
use Rattle.filled_lines.proofs.Lines.{bare_room, bare_wrote}
use Rattle.filled_lines.proofs.bare_line.Goals as goal

pub key_at-end-requires : goal.key_at-end-requires
key_at-end-requires c = search (rules, first_room, bare_room)

pub put_byte-requires : goal.put_byte-requires
put_byte-requires c = search (rules, last_room, bare_room)

pub returns : goal.returns
returns c = search (rules, bare_wrote, both_wrote)
