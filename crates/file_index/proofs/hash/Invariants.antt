-- The loop goes on behind the last four bytes: the hash so far, gone on over the bytes that are left, is the hash of all.
use Rattle.std.proofs.Common.{◌≡◌, ◌+◌, ◌*◌, ◌/◌, ◌<◌, length, drop}
use Rattle.file_index.specs.Buckets.{hashes, hash_from, hash_of}
use Rattle.file_index.proofs.hash.Given as goal

abbrev pub invariant-loop-b : goal.invariant-loop-b
invariant-loop-b l = (hash_from l.m l.h (drop (length l.name / 4 * 4 + l.b-index) l.name) ≡ hash_of l.m l.name) × (l.h < hashes)
