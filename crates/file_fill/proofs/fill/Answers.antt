-- The page refuses the text, or its fields are filled out.
use Rattle.std.proofs.Common.{rules}
use Rattle.file_read.proofs.Finding.{fields_sound, fields_few, fields_readable, refusal_fits}
use Rattle.file_fill.proofs.Filling.{page_refuses, page_untouched, page_answers, page_leaves}
use Rattle.file_fill.proofs.fill.Goals as goal

pub overflow_cast-result : goal.overflow_cast-result
overflow_cast-result c = refusal_fits _ _ _ c.list_fields.ensures.0 _ c.in-Err.is

pub fill_fields-requires-clause-sound : goal.fill_fields-requires-clause-sound
fill_fields-requires-clause-sound c = search (rules, fields_sound)

pub fill_fields-requires-clause-few : goal.fill_fields-requires-clause-few
fill_fields-requires-clause-few c = search (rules, fields_few)

pub fill_fields-requires-clause-readable : goal.fill_fields-requires-clause-readable
fill_fields-requires-clause-readable c = search (rules, fields_readable)

pub returns-in-Err : goal.returns-in-Err
returns-in-Err c = search (rules, page_refuses, page_untouched)

pub returns-in-Ok : goal.returns-in-Ok
returns-in-Ok c = search (rules, page_answers, page_leaves)
