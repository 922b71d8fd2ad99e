-- The loop goes on behind the last four bytes: the hash so far, gone on over the bytes that are left, is the hash of all.
use Rattle.std.proofs.Common.{rules}
use Rattle.file_index.proofs.Steps.{hash_below, fours_within, tail_again, tail_ends}
use Rattle.file_index.proofs.hash.Goals as goal

pub loop-b-preserved : goal.loop-b-preserved
loop-b-preserved c = search (rules, hash_below, fours_within, tail_again)

pub returns : goal.returns
returns c = search (rules, fours_within, tail_ends)
