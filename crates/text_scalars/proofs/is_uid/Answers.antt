-- One expression, which is the definition.
use Rattle.std.proofs.Common.{rules}
use Rattle.text_scalars.proofs.Laws.{uid_is_lem}
use Rattle.text_scalars.proofs.is_uid.Goals as goal

pub returns : goal.returns
returns c = search (rules, uid_is_lem)
