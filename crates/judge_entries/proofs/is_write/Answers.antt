-- Case by case.
use Rattle.std.proofs.Common.{rules}
use Rattle.judge_entries.proofs.Passes.{written, not_written}
use Rattle.judge_entries.proofs.is_write.Goals as goal

pub returns-in-Write : goal.returns-in-Write
returns-in-Write c = search (rules, written)

pub returns-in_default : goal.returns-in_default
returns-in_default c = search (rules, not_written)
