-- The walk: what is written and the words of the elements that are left are the whole; what is left is spaced, and counted.
use Rattle.std.proofs.Common.{◌≡◌, map, ◌+◌, ◌-◌, length}
use lib.Seq.{sets}
use Rattle.paper.specs.Lists.{elements_in}
use Rattle.text_lists.specs.Walk.{elements_left, SpacedFrom}
use Rattle.file_index.specs.Buckets.{numbers_in}
use Rattle.file_words.specs.Words.{word_by}
use Rattle.file_words.proofs.write_words.Given as goal

abbrev pub invariant-loop-found : goal.invariant-loop-found
invariant-loop-found l = SpacedFrom l.s l.at × (length l.out ≡ length l.initial.out) × (l.w + length (elements_left l.s l.at) ≡ length (elements_in l.s))
    × (sets l.out l.w (map (word_by l.pattern (numbers_in l.t l.names.index.now l.names.count) l.names.count (numbers_in l.t l.subjects.index.now l.subjects.count)) (elements_left l.s l.at))
    ≡ sets l.initial.out 0 (map (word_by l.pattern (numbers_in l.t l.names.index.now l.names.count) l.names.count (numbers_in l.t l.subjects.index.now l.subjects.count)) (elements_in l.s)))

abbrev pub decreases-loop-found : goal.decreases-loop-found
decreases-loop-found l = length l.s + 3 - l.at
