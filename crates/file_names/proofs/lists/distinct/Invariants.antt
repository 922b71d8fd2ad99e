-- The walk over the words: what is left is separate from what was seen exactly when all are.
use Rattle.std.proofs.Common.{◌≡◌, ◌-◌, length, replicate, drop}
use Rattle.file_names.specs.Separate.{separate}
use Rattle.file_names.proofs.lists.distinct.Given as goal

abbrev pub invariant-loop-word : goal.invariant-loop-word
invariant-loop-word l = (length l.seen ≡ 8) × (separate l.seen (drop l.word-index l.words) ≡ separate (replicate 8 0) l.words)
