-- Two weights and three sorts in one number, of which thirty-two bits are kept.
use Rattle.std.proofs.Common.{rules}
use Rattle.file_entries.proofs.Principals.{principal_hash_is}
use Rattle.file_entries.proofs.principal_hash.Goals as goal

pub returns : goal.returns
returns c = search (rules, principal_hash_is)
