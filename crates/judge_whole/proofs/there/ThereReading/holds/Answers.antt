-- The bit of the one word that has it.
use Rattle.std.proofs.Common.{rules}
use Rattle.judge_whole.proofs.Laws.{same_bit}
use Rattle.judge_whole.proofs.there.ThereReading.holds.Goals as goal

pub returns : goal.returns
returns c = search (rules, same_bit)
