-- The fields of the maps are some of the file's.
use Rattle.std.proofs.Common.{rules}
use Rattle.file_fields.proofs.Maps.{maps_within}
use Rattle.file_fields.proofs.file.File.maps.Goals as goal

pub part-requires : goal.part-requires
part-requires c = search (rules, maps_within)
