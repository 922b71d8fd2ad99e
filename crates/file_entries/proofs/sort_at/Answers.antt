-- The sort of the value, which is one of four.
use Rattle.std.proofs.Common.{rules}
use Rattle.file_entries.proofs.Principals.{sort_is, sort_little}
use Rattle.file_entries.proofs.sort_at.Goals as goal

pub returns : goal.returns
returns c = search (rules, sort_is, sort_little)
