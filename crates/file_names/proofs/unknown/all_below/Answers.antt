-- The walk over the words: those that are left are below the limit exactly when all are.
use Rattle.std.proofs.Common.{rules}
use Rattle.file_names.proofs.Looked.{below_done, below_fails, below_on}
use Rattle.file_names.proofs.unknown.all_below.Goals as goal

pub returns-then-limit-word : goal.returns-then-limit-word
returns-then-limit-word c = search (rules, below_fails)

pub loop-word-preserved : goal.loop-word-preserved
loop-word-preserved c = search (rules, below_on)

pub returns : goal.returns
returns c = search (rules, below_done)
