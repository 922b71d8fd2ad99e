-- The first `principal` stands among the fields, or behind them.
use Rattle.std.proofs.Common.{rules}
use Rattle.filled_text.proofs.Texts.{maps_within}
use Rattle.filled_text.proofs.maps.Goals as goal

pub invariant_of-result : goal.invariant_of-result
invariant_of-result c = search (rules, maps_within)
