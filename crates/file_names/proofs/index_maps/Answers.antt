-- Each index has room for its map; what is known of the three is put together.
use Rattle.std.proofs.Common.{rules}
use Rattle.file_names.proofs.Mapped.{object_room, subject_room, function_room, object_end, subject_end, functions_end, maps_to}
use Rattle.file_names.proofs.index_maps.Goals as goal

pub index_domains-objects-requires-clause-n_in_bounds : goal.index_domains-objects-requires-clause-n_in_bounds
index_domains-objects-requires-clause-n_in_bounds c = search (rules, object_room)

pub index_domains-objects-requires-clause-names_end : goal.index_domains-objects-requires-clause-names_end
index_domains-objects-requires-clause-names_end c = search (rules, object_end)

pub index_domains-subjects-requires-clause-n_in_bounds : goal.index_domains-subjects-requires-clause-n_in_bounds
index_domains-subjects-requires-clause-n_in_bounds c = search (rules, subject_room)

pub index_domains-subjects-requires-clause-names_end : goal.index_domains-subjects-requires-clause-names_end
index_domains-subjects-requires-clause-names_end c = search (rules, subject_end)

pub index_members-functions-requires-clause-n_in_bounds : goal.index_members-functions-requires-clause-n_in_bounds
index_members-functions-requires-clause-n_in_bounds c = search (rules, function_room)

pub index_members-functions-requires-clause-names_end : goal.index_members-functions-requires-clause-names_end
index_members-functions-requires-clause-names_end c = search (rules, functions_end)

pub returns-clause-maps_to : goal.returns-clause-maps_to
returns-clause-maps_to c =
    maps_to _ _ _ c.requires.sound c.requires.in_limits _ _ _ _ _ _ c.requires.objects_fresh c.requires.subjects_fresh c.requires.functions_fresh
    c.index_domains-objects.ensures.ix_len_unchanged c.index_domains-subjects.ensures.ix_len_unchanged c.index_members-functions.ensures.ix_len_unchanged
    _ _ _ c.index_domains-objects.ensures.indexed_as c.index_domains-subjects.ensures.indexed_as c.index_members-functions.ensures.indexed_as
