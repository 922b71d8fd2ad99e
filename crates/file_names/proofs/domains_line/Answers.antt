-- A cleared index has room for the domains of both maps.
use Rattle.std.proofs.Common.{rules}
use Rattle.file_names.proofs.Mapped.{cleared, room_for_both, both_end, both_line}
use Rattle.file_names.proofs.domains_line.Goals as goal

pub index_domains-found-requires-clause-index : goal.index_domains-found-requires-clause-index
index_domains-found-requires-clause-index c = search (rules, cleared)

pub index_domains-found-requires-clause-n_in_bounds : goal.index_domains-found-requires-clause-n_in_bounds
index_domains-found-requires-clause-n_in_bounds c = search (rules, room_for_both)

pub index_domains-found-requires-clause-names_end : goal.index_domains-found-requires-clause-names_end
index_domains-found-requires-clause-names_end c = search (rules, both_end)

pub returns : goal.returns
returns c = search (rules, both_line)
