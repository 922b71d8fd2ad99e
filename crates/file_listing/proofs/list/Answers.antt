-- The page refuses the text, or its fields are listed.
use Rattle.std.proofs.Common.{rules}
use Rattle.file_read.proofs.Finding.{fields_sound, fields_few, fields_readable, refusal_fits}
use Rattle.file_listing.proofs.Small.{found_small}
use Rattle.file_listing.proofs.Answers.{page_refuses, page_untouched, page_answers, page_leaves}
use Rattle.file_listing.proofs.list.Goals as goal

pub overflow_cast-result : goal.overflow_cast-result
overflow_cast-result c = refusal_fits _ _ _ c.list_fields.ensures.0 _ c.in-Err.is

pub list_ruled-requires-clause-sound : goal.list_ruled-requires-clause-sound
list_ruled-requires-clause-sound c = search (rules, fields_sound)

pub list_ruled-requires-clause-few : goal.list_ruled-requires-clause-few
list_ruled-requires-clause-few c = search (rules, fields_few)

pub list_ruled-requires-clause-readable : goal.list_ruled-requires-clause-readable
list_ruled-requires-clause-readable c = search (rules, fields_readable)

pub list_ruled-requires-clause-all_small : goal.list_ruled-requires-clause-all_small
list_ruled-requires-clause-all_small c = search (rules, found_small)

pub returns-in-Err : goal.returns-in-Err
returns-in-Err c = search (rules, page_refuses, page_untouched)

pub returns-in-Ok : goal.returns-in-Ok
returns-in-Ok c = search (rules, page_answers, page_leaves)
