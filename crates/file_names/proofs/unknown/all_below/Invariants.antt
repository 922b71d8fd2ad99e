-- The walk over the words: those that are left are below the limit exactly when all are.
use Rattle.std.proofs.Common.{◌≡◌, ◌-◌, length, drop}
use Rattle.file_names.specs.Below.{all_below}
use Rattle.file_names.proofs.unknown.all_below.Given as goal

abbrev pub invariant-loop-word : goal.invariant-loop-word
invariant-loop-word l = all_below l.limit (drop l.word-index l.words) ≡ all_below l.limit l.words
