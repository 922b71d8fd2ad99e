-- The numbers of the sorts are compared.
use Rattle.std.proofs.Common.{rules}
use Rattle.file_entries.proofs.Principals.{sorts_are}
use Rattle.file_entries.proofs.same_sort.Goals as goal

pub returns : goal.returns
returns c = search (rules, sorts_are)
