-- The field that was found, or none.
use Rattle.std.proofs.Common.{rules}
use Rattle.file_lookup.proofs.Placed.{name_here, name_nowhere}
use Rattle.file_lookup.proofs.name_among.Goals as goal

pub returns-in-Some : goal.returns-in-Some
returns-in-Some c = search (rules, name_here)

pub returns-in-None : goal.returns-in-None
returns-in-None c = search (rules, name_nowhere)
