-- Its four words, one after the other.
use Rattle.std.proofs.Common.{rules}
use Rattle.file_things.proofs.Things.{line_fits, start_fits, size_fits, room_for_kind, room_for_line, room_for_start, room_for_size, thing_put}
use Rattle.file_things.proofs.put_thing.Goals as goal

pub bounds-out-0 : goal.bounds-out-0
bounds-out-0 c = search (rules, room_for_kind)

pub overflow_cast-out : goal.overflow_cast-out
overflow_cast-out c = search (rules, line_fits)

pub bounds-out-1 : goal.bounds-out-1
bounds-out-1 c = search (rules, room_for_line)

pub overflow_cast-out-2 : goal.overflow_cast-out-2
overflow_cast-out-2 c = search (rules, start_fits)

pub bounds-out-2 : goal.bounds-out-2
bounds-out-2 c = search (rules, room_for_start)

pub overflow_cast-out-3 : goal.overflow_cast-out-3
overflow_cast-out-3 c = search (rules, size_fits)

pub bounds-out-3 : goal.bounds-out-3
bounds-out-3 c = search (rules, room_for_size)

pub returns : goal.returns
returns c = search (rules, thing_put)
