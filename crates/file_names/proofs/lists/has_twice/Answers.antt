-- The words, and where they say nothing the names themselves.
use Rattle.std.proofs.Common.{rules}
use Rattle.file_names.proofs.Scanned.{field_spaced, field_small, starts_room, listed_once, listed_told}
use Rattle.file_names.proofs.lists.has_twice.Goals as goal

pub list_distinct-requires-clause-starts_in_bounds : goal.list_distinct-requires-clause-starts_in_bounds
list_distinct-requires-clause-starts_in_bounds c = search (rules, starts_room)

pub returns-then-list_distinct : goal.returns-then-list_distinct
returns-then-list_distinct c = search (rules, listed_once)

pub names_twice-requires : goal.names_twice-requires
names_twice-requires c = search (rules, field_spaced, field_small)

pub returns : goal.returns
returns c = search (rules, listed_told)
