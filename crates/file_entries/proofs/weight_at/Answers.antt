-- The weight of the value.
use Rattle.std.proofs.Common.{rules}
use Rattle.file_entries.proofs.Principals.{weight_is}
use Rattle.file_entries.proofs.weight_at.Goals as goal

pub returns : goal.returns
returns c = search (rules, weight_is)
