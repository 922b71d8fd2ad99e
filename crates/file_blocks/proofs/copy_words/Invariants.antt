-- The loop: what is written and the words that are left to write are the whole.
use Rattle.std.proofs.Common.{◌≡◌, drop}
use Rattle.file_blocks.specs.Written.{put_from}
use Rattle.file_blocks.proofs.copy_words.Given as goal

abbrev pub invariant-loop-i : goal.invariant-loop-i
invariant-loop-i l = put_from l.i (drop l.i l.s) l.out ≡ put_from 0 l.s l.fn.out
