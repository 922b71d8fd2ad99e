-- The loop: the words of the fields so far stand in front, and where each starts.
use Rattle.std.proofs.Common.{rules}
use Rattle.file_words.proofs.LookedUp.{starts_long, field_spaced, none_begun, none_worded, own_room, sum_on, words_long, worded_on}
use Rattle.file_words.proofs.look_up.Goals as goal

pub loop-i-init : goal.loop-i-init
loop-i-init c = (search rules, search rules, search rules, search (rules, none_begun), search (rules, none_worded))

pub field_words-w-requires-clause-spaced : goal.field_words-w-requires-clause-spaced
field_words-w-requires-clause-spaced c = search (rules, field_spaced)

pub field_words-w-requires-clause-room : goal.field_words-w-requires-clause-room
field_words-w-requires-clause-room c = search (rules, own_room)

pub loop-i-preserved : goal.loop-i-preserved
loop-i-preserved c = let turn = c.loop-i in
    let inv = turn.invariant in
    let start = c.args.words.now in
    let first = c.args.starts.now in
    let room = c.requires.room in
    let spaced = c.requires.spaced in
    let below = c.loop-i-test.true in (
      search rules,
      words_long _ _ _ _ _ _ turn.words start below inv.1 inv.3 room.0 spaced _ c.field_words-w.ensures.value _ c.field_words-w.ensures.out_after,
      search rules,
      sum_on _ _ _ _ _ _ turn.words start below inv.1 inv.3 room.0 spaced _ c.field_words-w.ensures.value,
      worded_on _ _ _ _ _ _ turn.words start below inv.1 inv.3 room.0 spaced _ c.field_words-w.ensures.value _ c.field_words-w.ensures.out_after
          _ inv.4 first (starts_long turn.starts first inv.2) room.1,
    )
