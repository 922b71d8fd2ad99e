-- The loop: as that of `hash`, by four bytes at a time.
use Rattle.std.proofs.Common.{rules}
use Rattle.file_index.proofs.Steps.{hash_below, fours_again}
use Rattle.file_index.proofs.hash_fours.Goals as goal

pub loop-k-preserved : goal.loop-k-preserved
loop-k-preserved c = search (rules, hash_below, fours_again)
