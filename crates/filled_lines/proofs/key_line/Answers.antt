-- The key, a space, then the value to the end of the line.
use Rattle.std.proofs.Common.{rules}
use Rattle.filled_lines.proofs.Writing.{first_room, second_room, third_room, three_wrote}
use Rattle.filled_lines.proofs.Lines.{key_room, key_wrote}
use Rattle.filled_lines.proofs.key_line.Goals as goal

pub key_at-a-requires : goal.key_at-a-requires
key_at-a-requires c = search (rules, first_room, key_room)

pub put_byte-requires : goal.put_byte-requires
put_byte-requires c = search (rules, second_room, key_room)

pub end_line-requires : goal.end_line-requires
end_line-requires c = search (rules, third_room, key_room)

pub returns : goal.returns
returns c = search (rules, key_wrote, three_wrote)
