-- Two bits of the byte, or none where the name has ended.
use Rattle.std.proofs.Common.{◌-◌, ◌/◌, arith, length, rules}
use Rattle.file_index.proofs.Steps.{no_turn, its_turn, turn_below}
use Rattle.file_index.proofs.turn.Goals as goal

pub returns-then-name-back : goal.returns-then-name-back
returns-then-name-back c = search (rules, no_turn)

pub overflow_cast-result : goal.overflow_cast-result
overflow_cast-result c = omega (arith, c.shared_slice_known-1.given (length c.args.name.now - 1 - c.args.d / 4))

pub returns : goal.returns
returns c = search (rules, its_turn, turn_below)
