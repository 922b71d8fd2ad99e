-- The loop: the line of the first bad byte of what is left is that of all.
use Rattle.std.proofs.Common.{rules}
use Rattle.text_lines.proofs.Laws.{plain_none, bad_nowhere, bad_again, behind_from, bad_here, bad_none}
use Rattle.text_lines.proofs.bad_byte_line.Goals as goal

pub returns-then-all_plain : goal.returns-then-all_plain
returns-then-all_plain c = search (rules, plain_none)

pub returns-then-not-has_bad_byte : goal.returns-then-not-has_bad_byte
returns-then-not-has_bad_byte c = search (rules, bad_nowhere)

pub returns-then-not-may_stand : goal.returns-then-not-may_stand
returns-then-not-may_stand c = search (rules, bad_here)

pub loop-i-preserved : goal.loop-i-preserved
loop-i-preserved c = search (rules, bad_again, behind_from)

pub returns : goal.returns
returns c = search (rules, bad_none)
