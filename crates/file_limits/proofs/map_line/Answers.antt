-- The definition, for the fields of the maps, which are all that it counts.
use Rattle.std.proofs.Common.{rules}
use Rattle.file_limits.proofs.Laws.{map_line_lem}
use Rattle.file_limits.proofs.map_line.Goals as goal

pub returns : goal.returns
returns c = search (rules, map_line_lem)
