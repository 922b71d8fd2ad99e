-- A table with room is zero before the text is read into it.
use Rattle.std.proofs.Common.{rules}
use Rattle.file_read.proofs.Ruling.{front_zero, front_room, short_answers, short_leaves, room_answers, front_leaves}
use Rattle.file_read.proofs.read.Goals as goal

pub returns-then-table-lt-TABLE_WORDS : goal.returns-then-table-lt-TABLE_WORDS
returns-then-table-lt-TABLE_WORDS c = search (rules, short_answers, short_leaves)

pub read_text-requires : goal.read_text-requires
read_text-requires c = let zeros = c.fill.ensures.after (λ y e. e) in
    let room = c.if-table-lt-TABLE_WORDS.false in
    record {
      table_value = front_zero _ room _ zeros;
      table_words_in_bounds = front_room _ room _ zeros;
    }

pub returns : goal.returns
returns c = let zeros = c.fill.ensures.after (λ y e. e) in
    let room = c.if-table-lt-TABLE_WORDS.false in
    record {
      value = room_answers _ _ room _ c.read_text.ensures.value;
      table_after = front_leaves _ room _ zeros _ _ c.read_text.ensures.table_after;
    }
