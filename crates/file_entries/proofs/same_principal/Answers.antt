-- Part by part.
use Rattle.std.proofs.Common.{rules}
use Rattle.file_entries.proofs.Principals.{principal_is}
use Rattle.file_entries.proofs.same_principal.Goals as goal

pub returns : goal.returns
returns c = search (rules, principal_is)
