-- The filled text stands there already, or the refusal is written where the filler left everything as it was.
use Rattle.std.proofs.Common.{rules}
use Rattle.fill_output.proofs.Program.{refusal_room, filled_size, filled_leaves, refused_size, refused_leaves}
use Rattle.fill_output.proofs.output.Goals as goal

pub refusal_line-requires : goal.refusal_line-requires
refusal_line-requires c = search (rules, refusal_room)

pub returns-in-Written : goal.returns-in-Written
returns-in-Written c = search (rules, filled_size, filled_leaves)

pub returns-in-Unfilled : goal.returns-in-Unfilled
returns-in-Unfilled c = search (rules, refused_size, refused_leaves)
