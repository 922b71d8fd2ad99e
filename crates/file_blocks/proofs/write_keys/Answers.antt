-- Three words, then one `all` where there is no field, or the field's words.
use Rattle.std.proofs.Common.{rules}
use Rattle.file_blocks.proofs.Contexts.{room_for_uid, room_for_gid, room_for_namespace, room_for_count, all_written}
use Rattle.file_blocks.proofs.Contexts.{few_fit, room_for_pattern, pattern_room, context_stays_long, context_written}
use Rattle.file_blocks.proofs.write_keys.Goals as goal

pub bounds-out-1 : goal.bounds-out-1
bounds-out-1 c = search (rules, room_for_uid)

pub bounds-out-2 : goal.bounds-out-2
bounds-out-2 c = search (rules, room_for_gid)

pub bounds-out-3 : goal.bounds-out-3
bounds-out-3 c = search (rules, room_for_namespace)

pub bounds-out-0 : goal.bounds-out-0
bounds-out-0 c = search (rules, room_for_count)

pub returns-then-to-i : goal.returns-then-to-i
returns-then-to-i c = search (rules, all_written)

pub overflow_cast-out : goal.overflow_cast-out
overflow_cast-out c = search (rules, few_fit)

pub bounds-out-0-2 : goal.bounds-out-0-2
bounds-out-0-2 c = search (rules, room_for_count)

pub slice_bounds-copy_words-count : goal.slice_bounds-copy_words-count
slice_bounds-copy_words-count c = search (rules, room_for_pattern)

pub slice_bounds-copy_words-start : goal.slice_bounds-copy_words-start
slice_bounds-copy_words-start c = search (rules, room_for_pattern)

pub copy_words-requires : goal.copy_words-requires
copy_words-requires c = search (rules, pattern_room)

pub shape_of-out : goal.shape_of-out
shape_of-out c = context_stays_long _ c.requires.out_value _ _ _ _ _ _ c.copy_words.ensures

pub returns : goal.returns
returns c = search (rules, context_written)
