-- The walk over the words: what is left is separate from what was seen exactly when all are.
use Rattle.std.proofs.Common.{rules}
use Rattle.file_names.proofs.Apart.{separate_done, separate_high, separate_seen, separate_on, length_inserted_set}
use Rattle.file_names.proofs.lists.distinct.Goals as goal

pub returns-then-k-ge-DOMAINS : goal.returns-then-k-ge-DOMAINS
returns-then-k-ge-DOMAINS c = search (rules, separate_high)

pub returns-then-contains : goal.returns-then-contains
returns-then-contains c = search (rules, separate_seen)

pub loop-word-preserved : goal.loop-word-preserved
loop-word-preserved c = (search (rules, length_inserted_set), search (rules, separate_on))

pub returns : goal.returns
returns c = search (rules, separate_done)
