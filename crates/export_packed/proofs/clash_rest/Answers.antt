-- The four numbers side by side.
use Rattle.std.proofs.Common.{rules}
use Rattle.export_packed.proofs.Laws.{clash_packed}
use Rattle.export_packed.proofs.clash_rest.Goals as goal

pub returns : goal.returns
returns c = search (rules, clash_packed)
