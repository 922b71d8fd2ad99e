-- A field at another place names nothing; one at these places names its value.
use Rattle.std.proofs.Common.{rules}
use Rattle.file_names.proofs.Entering.{no_domain, domain_room, domain_fits, domain_twice, domain_in}
use Rattle.file_names.proofs.indexes.enter_domain.Goals as goal

pub returns-then-not-is_either : goal.returns-then-not-is_either
returns-then-not-is_either c = search (rules, no_domain)

pub overflow_add-end : goal.overflow_add-end
overflow_add-end c = search (rules, domain_fits)

pub enter-requires : goal.enter-requires
enter-requires c = search (rules, domain_room)

pub returns-then-enter-clause-entered_as : goal.returns-then-enter-clause-entered_as
returns-then-enter-clause-entered_as c = search (rules, domain_twice)

pub returns-clause-entered_as : goal.returns-clause-entered_as
returns-clause-entered_as c = search (rules, domain_in)
