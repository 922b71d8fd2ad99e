-- By what the place asks for.
use Rattle.std.proofs.Common.{rules}
use Rattle.file_names.proofs.Looked.{asks_subject, asks_subjects, asks_objects, asks_elements, asks_nothing}
use Rattle.file_names.proofs.unknown.is_unknown.Goals as goal

pub returns-in-Subject : goal.returns-in-Subject
returns-in-Subject c = search (rules, asks_subject)

pub returns-in-Subjects : goal.returns-in-Subjects
returns-in-Subjects c = search (rules, asks_subjects)

pub returns-in-Objects : goal.returns-in-Objects
returns-in-Objects c = search (rules, asks_objects)

pub returns-in-Elements : goal.returns-in-Elements
returns-in-Elements c = search (rules, asks_elements)

pub returns-in-Nothing : goal.returns-in-Nothing
returns-in-Nothing c = search (rules, asks_nothing)
