-- One expression, which is the definition.
use Rattle.std.proofs.Common.{rules}
use Rattle.text_scalars.proofs.Laws.{name_is}
use Rattle.text_scalars.proofs.is_name.Goals as goal

pub returns : goal.returns
returns c = search (rules, name_is)
