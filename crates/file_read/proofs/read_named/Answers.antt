-- 8 refuses where it names a line; else the rules that are left answer.
use Rattle.std.proofs.Common.{rules}
use Rattle.file_read.proofs.Asked.{unknown_fits, functions_few}
use Rattle.file_read.proofs.Ruling.{unknown_answers, unknown_leaves, known_answers, known_leaves}
use Rattle.file_read.proofs.read_named.Goals as goal

pub unknown_line-unknown-requires : goal.unknown_line-unknown-requires
unknown_line-unknown-requires c = let given = c.requires.numbered in
    record {
      of_subjects = given.of_subjects.index;
      of_objects = given.of_objects.counted;
      few_functions = functions_few _ _ given.of_functions;
      worded = given.worded;
    }

pub refused-requires : goal.refused-requires
refused-requires c = search (rules, unknown_fits, c.requires.numbered.readable)

pub returns-then-unknown-ne-NO_LINE : goal.returns-then-unknown-ne-NO_LINE
returns-then-unknown-ne-NO_LINE c = search (rules, unknown_answers, unknown_leaves)

pub read_known-requires : goal.read_known-requires
read_known-requires c = c.requires

pub returns : goal.returns
returns c = search (rules, known_answers, known_leaves)
