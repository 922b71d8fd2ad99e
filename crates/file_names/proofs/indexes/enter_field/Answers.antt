-- By what the field is asked to name.
use Rattle.std.proofs.Common.{rules}
use Rattle.file_names.proofs.Entering.{as_domains, room_domains, from_domains, as_members, room_members, from_members}
use Rattle.file_names.proofs.indexes.enter_field.Goals as goal

pub enter_domain-requires-clause-index : goal.enter_domain-requires-clause-index
enter_domain-requires-clause-index c = search (rules, as_domains)

pub enter_domain-requires-clause-room : goal.enter_domain-requires-clause-room
enter_domain-requires-clause-room c = search (rules, room_domains)

pub enter_members-requires-clause-index : goal.enter_members-requires-clause-index
enter_members-requires-clause-index c = search (rules, as_members)

pub enter_members-requires-clause-room : goal.enter_members-requires-clause-room
enter_members-requires-clause-room c = search (rules, room_members)

pub returns-in-Domains : goal.returns-in-Domains
returns-in-Domains c = search (rules, from_domains)

pub returns-in-Members : goal.returns-in-Members
returns-in-Members c = search (rules, from_members)
