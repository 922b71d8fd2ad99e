-- Place by place.
use Rattle.std.proofs.Common.{rules}
use Rattle.file_things.proofs.Things.{names_object_domain, names_objects, names_subject_domain, names_functions, names_entry, names_nothing}
use Rattle.file_things.proofs.naming_at.Goals as goal

pub returns-in-2 : goal.returns-in-2
returns-in-2 c = search (rules, names_object_domain)

pub returns-in-3 : goal.returns-in-3
returns-in-3 c = search (rules, names_objects)

pub returns-in-5 : goal.returns-in-5
returns-in-5 c = search (rules, names_subject_domain)

pub returns-in-6 : goal.returns-in-6
returns-in-6 c = search (rules, names_functions)

pub returns-in-8 : goal.returns-in-8
returns-in-8 c = search (rules, names_entry)

pub returns-in_default : goal.returns-in_default
returns-in_default c = search (rules, names_nothing)
