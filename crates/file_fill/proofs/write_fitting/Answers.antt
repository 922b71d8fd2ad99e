-- Too long, then no room, then written.
use Rattle.std.proofs.Common.{rules}
use Rattle.file_fill.proofs.Filling.{too_long, no_room, is_written, left_written, room_for}
use Rattle.file_fill.proofs.write_fitting.Goals as goal

pub returns-then-size-gt-TEXT_BYTES : goal.returns-then-size-gt-TEXT_BYTES
returns-then-size-gt-TEXT_BYTES c = search (rules, too_long)

pub returns-then-out-size : goal.returns-then-out-size
returns-then-out-size c = search (rules, no_room)

pub write_filled-requires : goal.write_filled-requires
write_filled-requires c = search (rules, room_for)

pub returns : goal.returns
returns c = search (rules, is_written, left_written)
