-- One test after the other, as the definition has them.
use Rattle.std.proofs.Common.{rules}
use Rattle.file_words.proofs.Looking.{seeks_subject, seeks_subjects, seeks_objects, seeks_elements, seeks_nothing}
use Rattle.file_words.proofs.places.sought_at.Goals as goal

pub returns-then-place-eq-SUBJECT : goal.returns-then-place-eq-SUBJECT
returns-then-place-eq-SUBJECT c = search (rules, seeks_subject)

pub returns-then-is_either : goal.returns-then-is_either
returns-then-is_either c = search (rules, seeks_subjects)

pub returns-then-is_either-2 : goal.returns-then-is_either-2
returns-then-is_either-2 c = search (rules, seeks_objects)

pub returns-then-is_call_context : goal.returns-then-is_call_context
returns-then-is_call_context c = search (rules, seeks_elements)

pub returns : goal.returns
returns c = search (rules, seeks_nothing)
