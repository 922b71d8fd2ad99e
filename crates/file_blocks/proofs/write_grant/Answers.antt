-- The mark alone, or the set of the field's words behind it.
use Rattle.std.proofs.Common.{rules}
use Rattle.file_blocks.proofs.Entries.{room_for_every, room_for_set, every_written, words_stand, set_written}
use Rattle.file_blocks.proofs.write_grant.Goals as goal

pub bounds-out-0 : goal.bounds-out-0
bounds-out-0 c = search (rules, room_for_every)

pub returns-then-is_every : goal.returns-then-is_every
returns-then-is_every c = search (rules, every_written)

pub of-requires : goal.of-requires
of-requires c = search (rules, words_stand)

pub slice_bounds-put_domains-count : goal.slice_bounds-put_domains-count
slice_bounds-put_domains-count c = search (rules, room_for_set)

pub slice_bounds-put_domains-start : goal.slice_bounds-put_domains-start
slice_bounds-put_domains-start c = search (rules, room_for_set)

pub returns : goal.returns
returns c = search (rules, set_written)
