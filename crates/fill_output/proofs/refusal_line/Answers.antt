-- The number, a space, then the line's number to the end of the line.
use Rattle.std.proofs.Common.{rules}
use Rattle.filled_lines.proofs.Writing.{first_room, second_room, third_room, three_wrote}
use Rattle.fill_output.proofs.Program.{line_room, line_wrote}
use Rattle.fill_output.proofs.refusal_line.Goals as goal

pub put_decimal-a-requires : goal.put_decimal-a-requires
put_decimal-a-requires c = search (rules, first_room, line_room)

pub put_byte-requires : goal.put_byte-requires
put_byte-requires c = search (rules, second_room, line_room)

pub end_number-requires : goal.end_number-requires
end_number-requires c = search (rules, third_room, line_room)

pub returns : goal.returns
returns c = search (rules, line_wrote, three_wrote)
