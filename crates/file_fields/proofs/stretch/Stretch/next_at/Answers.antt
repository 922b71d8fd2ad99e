-- The first of its fields that stands there is the next one.
use Rattle.std.proofs.Common.{rules}
use Rattle.file_fields.proofs.Chains.{next_found, next_not}
use Rattle.file_fields.proofs.stretch.Stretch.next_at.Goals as goal

pub returns-in-Some : goal.returns-in-Some
returns-in-Some c = search (rules, next_found)

pub returns-in-None : goal.returns-in-None
returns-in-None c = search (rules, next_not)
