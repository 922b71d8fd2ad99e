-- Value and class are all but the rest, which is 0.
use Rattle.std.proofs.Common.{rules}
use Rattle.export_packed.proofs.Laws.{half_packed}
use Rattle.export_packed.proofs.half.Goals as goal

pub returns : goal.returns
returns c = search (rules, half_packed)
