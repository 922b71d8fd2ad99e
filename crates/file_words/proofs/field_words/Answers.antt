-- By what its names are looked up in.
use Rattle.std.proofs.Common.{rules}
use Rattle.file_words.proofs.OfField.{its_spacing, subjects_room, subjects_count, subjects_written, objects_room, objects_count, objects_written}
use Rattle.file_words.proofs.OfField.{elements_room, elements_count, elements_written, of_subject, of_nothing, none_counted, none_written}
use Rattle.file_words.proofs.field_words.Goals as goal

pub domain_words-requires-clause-s_value : goal.domain_words-requires-clause-s_value
domain_words-requires-clause-s_value c = search (rules, its_spacing)

pub domain_words-requires-clause-s_in_bounds : goal.domain_words-requires-clause-s_in_bounds
domain_words-requires-clause-s_in_bounds c = search (rules, subjects_room)

pub domain_words-requires-in-Objects-clause-s_value : goal.domain_words-requires-in-Objects-clause-s_value
domain_words-requires-in-Objects-clause-s_value c = search (rules, its_spacing)

pub domain_words-requires-in-Objects-clause-s_in_bounds : goal.domain_words-requires-in-Objects-clause-s_in_bounds
domain_words-requires-in-Objects-clause-s_in_bounds c = search (rules, objects_room)

pub write_words-requires-clause-s_value : goal.write_words-requires-clause-s_value
write_words-requires-clause-s_value c = search (rules, its_spacing)

pub write_words-requires-clause-s_in_bounds : goal.write_words-requires-clause-s_in_bounds
write_words-requires-clause-s_in_bounds c = search (rules, elements_room)

pub returns-in-Subjects-clause-value : goal.returns-in-Subjects-clause-value
returns-in-Subjects-clause-value c = search (rules, subjects_count)

pub returns-in-Subjects-clause-out_after : goal.returns-in-Subjects-clause-out_after
returns-in-Subjects-clause-out_after c = search (rules, subjects_written)

pub returns-in-Objects-clause-value : goal.returns-in-Objects-clause-value
returns-in-Objects-clause-value c = search (rules, objects_count)

pub returns-in-Objects-clause-out_after : goal.returns-in-Objects-clause-out_after
returns-in-Objects-clause-out_after c = search (rules, objects_written)

pub returns-in-Elements-clause-value : goal.returns-in-Elements-clause-value
returns-in-Elements-clause-value c = search (rules, elements_count)

pub returns-in-Elements-clause-out_after : goal.returns-in-Elements-clause-out_after
returns-in-Elements-clause-out_after c = search (rules, elements_written)

pub returns-in-Subject : goal.returns-in-Subject
returns-in-Subject c = search (rules, none_counted, none_written, of_subject)

pub returns-in-Nothing : goal.returns-in-Nothing
returns-in-Nothing c = search (rules, none_counted, none_written, of_nothing)
