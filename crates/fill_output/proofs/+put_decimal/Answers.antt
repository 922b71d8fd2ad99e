-- One digit, or what a tenth of the number has and then the last digit.
use Rattle.std.proofs.Common.{rules}
use Rattle.fill_output.proofs.Decimals.{one_room, one_wrote, tenth_room, tenth_falls, digit_room, digits_wrote}
use Rattle.fill_output.proofs.+put_decimal.Goals as goal

pub put_byte-requires : goal.put_byte-requires
put_byte-requires t c = search (rules, one_room)

pub returns-then-n-lt10 : goal.returns-then-n-lt10
returns-then-n-lt10 t c = search (rules, one_wrote)

pub put_decimal-end-requires : goal.put_decimal-end-requires
put_decimal-end-requires t c = search (rules, tenth_room, tenth_falls)

pub put_byte-requires-2 : goal.put_byte-requires-2
put_byte-requires-2 t c = search (rules, digit_room)

pub returns : goal.returns
returns t c = search (rules, digits_wrote)
