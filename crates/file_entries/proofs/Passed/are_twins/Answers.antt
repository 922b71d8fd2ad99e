-- Other hashes are other principals; at the same hash the parts tell.
use Rattle.std.proofs.Common.{rules}
use Rattle.file_entries.proofs.Principals.{other_hash}
use Rattle.file_entries.proofs.Passed.are_twins.Goals as goal

pub returns-then-self-a : goal.returns-then-self-a
returns-then-self-a c = search (rules, other_hash)
