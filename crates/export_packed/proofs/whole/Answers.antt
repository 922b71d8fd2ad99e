-- The rest stands above the low half.
use Rattle.std.proofs.Common.{rules}
use Rattle.export_packed.proofs.Laws.{whole_packed}
use Rattle.export_packed.proofs.whole.Goals as goal

pub returns : goal.returns
returns c = search (rules, whole_packed)
