-- The loop: the commas of the blocks passed and those left are all.
use Rattle.std.proofs.Common.{◌≡◌, ◌+◌, count_by}
use Rattle.std.specs.Slice.Iter.{chunks_rest, chunks_size}
use Rattle.file_fields.specs.Values.{block, is_comma}
use Rattle.file_fields.proofs.values.comma_count.Given as goal

abbrev pub invariant-loop-block : goal.invariant-loop-block
invariant-loop-block l =
    (goal.iterator-loop-block).can_next l.block-iterator
    × (goal.iterator-loop-block).is_finite l.block-iterator
    × (chunks_size l.block-iterator ≡ block)
    × (l.count + count_by is_comma (chunks_rest l.block-iterator) ≡ count_by is_comma l.fn.s)
