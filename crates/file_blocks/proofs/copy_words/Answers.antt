-- The loop: what is written and the words that are left to write are the whole.
use Rattle.std.proofs.Common.{rules}
use Rattle.file_blocks.proofs.Walked.{copy_done, copy_again}
use Rattle.file_blocks.proofs.copy_words.Goals as goal

pub loop-i-preserved : goal.loop-i-preserved
loop-i-preserved c = search (rules, copy_again)

pub returns : goal.returns
returns c = search (rules, copy_done)
