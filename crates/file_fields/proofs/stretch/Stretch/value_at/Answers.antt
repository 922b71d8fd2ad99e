-- The first of its fields that stands there has the value, if there is one.
use Rattle.std.proofs.Common.{rules}
use Rattle.file_fields.proofs.Chains.{value_first, value_nowhere}
use Rattle.file_fields.proofs.stretch.Stretch.value_at.Goals as goal

pub returns-in-Some : goal.returns-in-Some
returns-in-Some c = search (rules, value_first)

pub returns-in-None : goal.returns-in-None
returns-in-None c = search (rules, value_nowhere)
