-- The place tells the number.
use Rattle.std.proofs.Common.{rules}
use Rattle.file_index.proofs.Steps.{number_found, number_free, found_below}
use Rattle.file_index.proofs.names.Names.number_hashed.Goals as goal

pub returns-in-Found : goal.returns-in-Found
returns-in-Found c = search (rules, number_found, found_below)

pub returns-in-Free : goal.returns-in-Free
returns-in-Free c = search (rules, number_free)
