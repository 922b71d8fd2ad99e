-- The walk: what is written and the words of the elements that are left are the whole; what is left is spaced, and counted.
use Rattle.std.proofs.Common.{rules}
use Rattle.text_lists.proofs.Walk.{spaced_at_first}
use Rattle.file_words.proofs.Writing.{count_first, written_first, its_hash, its_start, its_end, less_left, spaced_on}
use Rattle.file_words.proofs.Writing.{count_on, room_here, room_fits, long_on, written_on, all_counted, all_written}
use Rattle.file_words.proofs.write_words.Goals as goal

pub loop-found-init : goal.loop-found-init
loop-found-init c = search (rules, spaced_at_first, count_first, written_first)

pub returns : goal.returns
returns c = search (rules, all_counted, all_written)

pub slice_bounds-name-count : goal.slice_bounds-name-count
slice_bounds-name-count c = search (rules, its_start)

pub slice_bounds-name-start : goal.slice_bounds-name-start
slice_bounds-name-start c = search (rules, its_start)

pub slice_bounds-name-end : goal.slice_bounds-name-end
slice_bounds-name-end c = search (rules, its_end)

pub word_of-requires : goal.word_of-requires
word_of-requires c = search (rules, its_hash)

pub offset_bounds-out-w : goal.offset_bounds-out-w
offset_bounds-out-w c = search (rules, room_here)

pub bounds-out-w : goal.bounds-out-w
bounds-out-w c = search (rules, room_here)

pub overflow_add-w : goal.overflow_add-w
overflow_add-w c = search (rules, room_fits)

pub loop-found-smaller : goal.loop-found-smaller
loop-found-smaller c = search (rules, less_left)

pub loop-found-preserved : goal.loop-found-preserved
loop-found-preserved c = (search (rules, spaced_on), search (rules, long_on), search (rules, count_on), search (rules, written_on))
