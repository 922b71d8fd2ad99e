-- The loop: as that of `hash`, by four bytes at a time.
use Rattle.std.proofs.Common.{◌≡◌, ◌*◌, ◌<◌, drop}
use Rattle.file_index.specs.Buckets.{hashes, hash_from, hash_of}
use Rattle.file_index.proofs.hash_fours.Given as goal

abbrev pub invariant-loop-k : goal.invariant-loop-k
invariant-loop-k l = (hash_from l.m l.h (drop (4 * l.k) l.name) ≡ hash_of l.m l.name) × (l.h < hashes)
