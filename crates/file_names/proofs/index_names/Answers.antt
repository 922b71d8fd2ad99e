-- The smallest of four lines is that of 7; where there is none, the maps are indexed, no name stands in one twice, and the words are those of the file.
use Rattle.file_names.proofs.Mapped.{still_room, went_room, twice_told, maps_told, words_from}
use Rattle.file_names.proofs.Mapped.{distinct_told}
use Rattle.file_names.proofs.index_names.Goals as goal

pub index_maps-named-requires : goal.index_maps-named-requires
index_maps-named-requires c =
    record {
      sound = c.requires.sound;
      in_limits = c.requires.in_limits;
      end_value = c.maps-end.ensures.last;
      objects_fresh = c.requires.objects_fresh;
      subjects_fresh = c.requires.subjects_fresh;
      functions_fresh = c.requires.functions_fresh;
    }

pub maps_of-maps-requires : goal.maps_of-maps-requires
maps_of-maps-requires c =
    let maps = c.index_maps-named.ensures in
    let as_long = maps.objects_ix_len_unchanged in
    record {
      objects = went_room _ _ _ _ _ maps.maps_to.few_objects c.requires.objects_fresh as_long.0;
      subjects = went_room _ _ _ _ _ maps.maps_to.few_subjects c.requires.subjects_fresh as_long.1;
      functions = went_room _ _ _ _ _ maps.maps_to.few_functions c.requires.functions_fresh as_long.2;
    }

pub word_lists-lists-requires : goal.word_lists-lists-requires
word_lists-lists-requires c =
    record {
      sound = c.requires.sound;
      room = (c.requires.room.0, still_room _ _ _ c.requires.room.1 c.objects_line-objects.ensures.ix_len_unchanged);
    }

pub returns : goal.returns
returns c = let domains = c.domains_line-domains.ensures in
    let objects = c.objects_line-objects.ensures.value in
    let first = c.earlier.ensures in
    let second = c.earlier-2.ensures in
    let third = c.earlier-3.ensures in
    let indexed = c.index_maps-named.ensures in
    let lists = c.word_lists-lists.ensures in
    record {
      twice_value = twice_told _ _ _ c.requires.sound c.requires.in_limits _ _ _ _ _ _ _ domains objects indexed.maps_to.line lists.value first second third;
      maps = maps_told _ _ _ c.requires.sound c.requires.in_limits _ _ _ _ _ _ _ domains objects indexed.maps_to.line lists.value first second third _ _ _ _ indexed.maps_to;
      distinct = distinct_told _ _ _ c.requires.sound c.requires.in_limits _ _ _ _ _ _ _ domains objects indexed.maps_to.line lists.value first second third;
      worded = words_from _ _ _ c.requires.sound c.requires.in_limits _ _ _ _ _ _ _ domains objects indexed.maps_to.line lists.value first second third _ _ _ _ _ _ indexed.maps_to
          c.maps_of-maps.result c.maps_of-maps.ensures.objects c.maps_of-maps.ensures.subjects c.maps_of-maps.ensures.functions lists.worded;
    }
