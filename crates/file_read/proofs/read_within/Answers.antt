-- 7, and then the rules that are left; 6 named no line.
use Rattle.std.proofs.Common.{refl, rules}
use Rattle.file_read.proofs.Asked.{twice_fits, words_room, starts_room, fresh_domains, fresh_members}
use Rattle.file_read.proofs.Asked.{objects_room, subjects_room, functions_room, objects_known, subjects_known, functions_known}
use Rattle.file_read.proofs.Ruling.{twice_answers, twice_leaves, named_answers, named_leaves}
use Rattle.file_read.proofs.read_within.Goals as goal

pub index_names-named-requires-clause-room : goal.index_names-named-requires-clause-room
index_names-named-requires-clause-room c = (search (rules, words_room), search (rules, starts_room))

pub index_names-named-requires-clause-objects_fresh : goal.index_names-named-requires-clause-objects_fresh
index_names-named-requires-clause-objects_fresh c = search (rules, fresh_domains)

pub index_names-named-requires-clause-subjects_fresh : goal.index_names-named-requires-clause-subjects_fresh
index_names-named-requires-clause-subjects_fresh c = search (rules, fresh_domains)

pub index_names-named-requires-clause-functions_fresh : goal.index_names-named-requires-clause-functions_fresh
index_names-named-requires-clause-functions_fresh c = search (rules, fresh_members)

pub index_names-named-requires-clause-starts_fresh : goal.index_names-named-requires-clause-starts_fresh
index_names-named-requires-clause-starts_fresh c = search (rules, fresh_members)

pub refused-requires : goal.refused-requires
refused-requires c = search (rules, twice_fits)

pub returns-then-named-ne-NO_LINE : goal.returns-then-named-ne-NO_LINE
returns-then-named-ne-NO_LINE c = let twice = c.if-named-ne-NO_LINE.true in
    record {
      value = twice_answers _ _ refl c.requires.within _ c.index_names-named.ensures.twice_value twice _ c.refused.ensures;
      left = twice_leaves _ _ refl c.requires.within _ c.index_names-named.ensures.twice_value twice _ c.requires.cleared;
    }

pub maps_of-maps-requires : goal.maps_of-maps-requires
maps_of-maps-requires c = let once = c.if-named-ne-NO_LINE.false in
    record {
      objects = objects_room _ _ once _ _ _ _ c.index_names-named.ensures.maps;
      subjects = subjects_room _ _ once _ _ _ _ c.index_names-named.ensures.maps;
      functions = functions_room _ _ once _ _ _ _ c.index_names-named.ensures.maps;
    }

pub read_named-requires : goal.read_named-requires
read_named-requires c = let once = c.if-named-ne-NO_LINE.false in
    let indexed = c.index_names-named.ensures in
    let maps = c.maps_of-maps.ensures in
    record {
      numbered = record {
        sound = c.requires.sound;
        few = c.requires.few;
        readable = c.requires.readable;
        within = c.requires.within;
        of_objects = objects_known _ _ once _ _ _ _ indexed.maps indexed.distinct _ maps.objects.1;
        of_subjects = subjects_known _ _ once _ _ _ _ indexed.maps indexed.distinct _ _ maps.subjects.0 maps.subjects.1;
        of_functions = functions_known _ _ once _ _ _ _ indexed.maps _ maps.functions.1;
        worded = indexed.worded once;
      };
      cleared = c.requires.cleared;
    }

pub returns : goal.returns
returns c = let once = c.if-named-ne-NO_LINE.false in
    record {
      value = named_answers _ _ refl c.requires.within _ c.index_names-named.ensures.twice_value once _ c.read_named.ensures.value;
      left = named_leaves _ _ refl c.requires.within _ c.index_names-named.ensures.twice_value once c.args.table.now _ c.read_named.ensures.left;
    }
