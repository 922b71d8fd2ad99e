-- The first of its fields that is such a key is the next one.
use Rattle.std.proofs.Common.{rules}
use Rattle.file_fields.proofs.Chains.{key_found, key_not, key_within}
use Rattle.file_fields.proofs.stretch.Stretch.keys_of.Goals as goal

pub returns-in-Some : goal.returns-in-Some
returns-in-Some c = search (rules, key_found, key_within)

pub returns-in-None : goal.returns-in-None
returns-in-None c = search (rules, key_not)
