-- The number, then the end of the line.
use Rattle.std.proofs.Common.{rules}
use Rattle.filled_lines.proofs.Writing.{first_room, last_room, both_wrote}
use Rattle.fill_output.proofs.end_number.Goals as goal

pub put_decimal-end-requires : goal.put_decimal-end-requires
put_decimal-end-requires c = search (rules, first_room)

pub put_byte-requires : goal.put_byte-requires
put_byte-requires c = search (rules, last_room)

pub returns : goal.returns
returns c = search (rules, both_wrote)
