-- The definition in two halves.
use Rattle.std.proofs.Common.{rules}
use Rattle.text_scalars.proofs.Laws.{identifier_told}
use Rattle.text_scalars.proofs.is_identifier.Goals as goal

pub returns : goal.returns
returns c = search (rules, identifier_told)
