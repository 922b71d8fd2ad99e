-- The loop: the first long pattern of what is left is the first of all.
use Rattle.std.proofs.Common.{rules}
use Rattle.file_fields.proofs.Firsts.{first_here, first_on, first_nowhere}
use Rattle.file_limits.proofs.long_line.Goals as goal

pub returns-then-is_long : goal.returns-then-is_long
returns-then-is_long c = search (rules, first_here)

pub loop-field-preserved : goal.loop-field-preserved
loop-field-preserved c = search (rules, first_on)

pub returns : goal.returns
returns c = search (rules, first_nowhere)
