-- As many as the chain counts.
use Rattle.std.proofs.Common.{rules}
use Rattle.file_fields.proofs.Chains.{counted_between}
use Rattle.file_fields.proofs.stretch.Stretch.count_at.Goals as goal

pub returns : goal.returns
returns c = search (rules, counted_between)
