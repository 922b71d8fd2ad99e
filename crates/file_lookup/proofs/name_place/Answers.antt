-- The page refuses the text, and there is no name; or it is looked up among the fields of the page.
use Rattle.std.proofs.Common.{rules}
use Rattle.file_read.proofs.Finding.{fields_sound, fields_few, fields_readable}
use Rattle.file_lookup.proofs.Answered.{page_refuses, page_answers, page_in_text, front_in_text}
use Rattle.file_lookup.proofs.name_place.Goals as goal

pub name_in_fields-requires-clause-sound : goal.name_in_fields-requires-clause-sound
name_in_fields-requires-clause-sound c = search (rules, fields_sound)

pub name_in_fields-requires-clause-few : goal.name_in_fields-requires-clause-few
name_in_fields-requires-clause-few c = search (rules, fields_few)

pub name_in_fields-requires-clause-readable : goal.name_in_fields-requires-clause-readable
name_in_fields-requires-clause-readable c = search (rules, fields_readable)

pub returns-in-Err : goal.returns-in-Err
returns-in-Err c = search (rules, page_refuses, front_in_text)

pub returns-in-Ok : goal.returns-in-Ok
returns-in-Ok c = search (rules, page_answers, page_in_text)
