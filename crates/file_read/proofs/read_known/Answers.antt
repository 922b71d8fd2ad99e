-- Each rule that names a line refuses; where none does, the words are written if they are wanted.
use Rattle.std.proofs.Common.{rules}
use Rattle.file_read.proofs.Asked.{unbound_fits, twin_fits, few_entries_lem}
use Rattle.file_read.proofs.Ruling.{unbound_answers, unbound_leaves, twin_answers, twin_leaves, accepts, writes, keeps}
use Rattle.file_read.proofs.read_known.Goals as goal

pub refused-requires : goal.refused-requires
refused-requires c = search (rules, unbound_fits, c.requires.numbered.readable)

pub returns-then-unbound-ne-NO_LINE : goal.returns-then-unbound-ne-NO_LINE
returns-then-unbound-ne-NO_LINE c = search (rules, unbound_answers, unbound_leaves)

pub twin_line-twin-requires : goal.twin_line-twin-requires
twin_line-twin-requires c = few_entries_lem _ c.requires.numbered.readable c.requires.numbered.within

pub refused-requires-then-twin-ne-NO_LINE : goal.refused-requires-then-twin-ne-NO_LINE
refused-requires-then-twin-ne-NO_LINE c = search (rules, twin_fits, c.requires.numbered.readable)

pub returns-then-twin-ne-NO_LINE : goal.returns-then-twin-ne-NO_LINE
returns-then-twin-ne-NO_LINE c = search (rules, twin_answers, twin_leaves)

pub returns-then-table-lt-TABLE_WORDS : goal.returns-then-table-lt-TABLE_WORDS
returns-then-table-lt-TABLE_WORDS c = search (rules, accepts, keeps)

pub write_table-requires : goal.write_table-requires
write_table-requires c = let given = c.requires.numbered in
    let room = c.if-table-lt-TABLE_WORDS.false in
    record {
      few_fields = given.few;
      worded = given.worded;
      of_maps = (given.of_objects, given.of_subjects, given.of_functions);
      in_limits = (given.readable.numbered, given.within);
      zeros = (room, c.requires.cleared.clear room);
    }

pub returns : goal.returns
returns c = search (rules, accepts, writes)
