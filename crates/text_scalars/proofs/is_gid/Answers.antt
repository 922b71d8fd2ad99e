-- One expression, which is the definition.
use Rattle.std.proofs.Common.{rules}
use Rattle.text_scalars.proofs.Laws.{gid_is_lem}
use Rattle.text_scalars.proofs.is_gid.Goals as goal

pub returns : goal.returns
returns c = search (rules, gid_is_lem)
