-- One expression, which is the definition.
use Rattle.std.proofs.Common.{rules}
use Rattle.text_scalars.proofs.Laws.{parts_meet_is}
use Rattle.text_scalars.proofs.parts_meet.Goals as goal

pub returns : goal.returns
returns c = search (rules, parts_meet_is)
