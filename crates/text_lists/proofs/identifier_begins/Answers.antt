-- The definition.
use Rattle.std.proofs.Common.{rules}
use Rattle.text_lists.proofs.Scalars.{begins_is}
use Rattle.text_lists.proofs.identifier_begins.Goals as goal

pub returns : goal.returns
returns c = search (rules, begins_is)
