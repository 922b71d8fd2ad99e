-- The bit as the definition reads it; past the set's end there is none.
use Rattle.std.proofs.Common.{rules}
use Rattle.paper.specs.Table.{is_in}
use Rattle.paper.proofs.Operation.contains.Goals as goal

pub returns : goal.returns
unfolding is_in
returns c = search rules
