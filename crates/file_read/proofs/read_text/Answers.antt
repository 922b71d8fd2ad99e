-- What was found of the text is its answer.
use Rattle.std.proofs.Common.{rules}
use Rattle.file_read.proofs.Finding.{fields_sound, fields_few, fields_readable, refusal_answers, refusal_leaves, fields_answer, fields_leave, refusal_fits}
use Rattle.file_read.proofs.Ruling.{is_cleared}
use Rattle.file_read.proofs.read_text.Goals as goal

pub overflow_cast-result : goal.overflow_cast-result
overflow_cast-result c = refusal_fits _ _ _ c.list_fields.ensures.0 _ c.in-Err.is

pub read_fields-requires-clause-sound : goal.read_fields-requires-clause-sound
read_fields-requires-clause-sound c = search (rules, fields_sound)

pub read_fields-requires-clause-few : goal.read_fields-requires-clause-few
read_fields-requires-clause-few c = search (rules, fields_few)

pub read_fields-requires-clause-readable : goal.read_fields-requires-clause-readable
read_fields-requires-clause-readable c = search (rules, fields_readable)

pub read_fields-requires-clause-cleared : goal.read_fields-requires-clause-cleared
read_fields-requires-clause-cleared c = search (rules, is_cleared)

pub returns-in-Err : goal.returns-in-Err
returns-in-Err c = search (rules, refusal_answers, refusal_leaves)

pub returns-in-Ok-clause-value : goal.returns-in-Ok-clause-value
returns-in-Ok-clause-value c = fields_answer _ _ _ c.list_fields.ensures.0 _ c.in-Ok.is _ c.read_fields.ensures.value

pub returns-in-Ok-clause-table_after : goal.returns-in-Ok-clause-table_after
returns-in-Ok-clause-table_after c = fields_leave _ _ _ c.list_fields.ensures.0 _ c.in-Ok.is _ _ c.requires.table_words_in_bounds c.read_fields.ensures.left
