-- The map of its number, or there is no name.
use Rattle.std.proofs.Common.{rules}
use Rattle.export.proofs.Laws.{by_number, by_none}
use Rattle.export.proofs.dovetenon_name.Goals as goal

pub returns-in-Some : goal.returns-in-Some
returns-in-Some c = search (rules, by_number)

pub returns-in-None : goal.returns-in-None
returns-in-None c = search (rules, by_none)
