-- The loop: the element from the place on ends where that from `at` on does, and the hash so far, gone on over it, is the whole one's.
use Rattle.std.proofs.Common.{◌≡◌, ◌+◌, ◌<◌, drop}
use Rattle.paper.specs.Text.{comma}
use Rattle.laws.specs.Pieces.{before}
use Rattle.file_index.specs.Buckets.{hashes, hash_from, hash_of}
use Rattle.file_words.proofs.Hashing.{element}
use Rattle.file_words.proofs.hashed_at.Given as goal

abbrev pub invariant-loop-end : goal.invariant-loop-end
invariant-loop-end l = (l.end + before comma (drop l.end l.s) ≡ l.at + before comma (drop l.at l.s))
    × (hash_from l.m l.hash (element l.s l.end) ≡ hash_of l.m (element l.s l.at)) × (l.hash < hashes)
