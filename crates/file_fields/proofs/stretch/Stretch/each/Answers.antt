-- The next field of a place stands within the stretch, or behind it.
use Rattle.std.proofs.Common.{rules}
use Rattle.file_fields.proofs.Between.{next_within}
use Rattle.file_fields.proofs.Walking.{walk_stands}
use Rattle.file_fields.proofs.stretch.Stretch.each.Goals as goal

pub invariant_of-result : goal.invariant_of-result
invariant_of-result c = search (rules, next_within)

pub invariant_of-result-2 : goal.invariant_of-result-2
invariant_of-result-2 c = search (rules, walk_stands)
