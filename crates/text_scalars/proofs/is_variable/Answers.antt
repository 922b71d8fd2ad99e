-- One expression, which is the definition.
use Rattle.std.proofs.Common.{rules}
use Rattle.text_scalars.proofs.Laws.{variable_is}
use Rattle.text_scalars.proofs.is_variable.Goals as goal

pub returns : goal.returns
returns c = search (rules, variable_is)
