-- The loop: the element from the place on ends where that from `at` on does, and the hash so far, gone on over it, is the whole one's.
use Rattle.std.proofs.Common.{rules}
use Rattle.laws.proofs.Bytes.{find_again}
use Rattle.file_words.proofs.Hashing.{hashed_none, hashed_here, hashed_on, hashed_last}
use Rattle.file_words.proofs.hashed_at.Goals as goal

pub returns-then-s-at : goal.returns-then-s-at
returns-then-s-at c = search (rules, hashed_none)

pub returns-then-b-eq-COMMA : goal.returns-then-b-eq-COMMA
returns-then-b-eq-COMMA c = search (rules, hashed_here)

pub loop-end-preserved : goal.loop-end-preserved
loop-end-preserved c = search (rules, find_again, hashed_on)

pub returns : goal.returns
returns c = search (rules, hashed_last)
