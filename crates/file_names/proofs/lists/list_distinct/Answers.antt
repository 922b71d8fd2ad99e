-- By what the place asks for.
use Rattle.std.proofs.Common.{rules}
use Rattle.file_names.proofs.Scanned.{not_listed, listed_here}
use Rattle.file_names.proofs.lists.list_distinct.Goals as goal

pub returns-then-not-is_listed : goal.returns-then-not-is_listed
returns-then-not-is_listed c = search (rules, not_listed)

pub returns : goal.returns
returns c = search (rules, listed_here)
