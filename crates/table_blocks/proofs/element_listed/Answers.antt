-- Below the first domain's word an element is held to the functions, from it on to the subject domains.
use Rattle.std.proofs.Common.{rules}
use Rattle.table_blocks.proofs.Laws.{listed_function, listed_domain}
use Rattle.table_blocks.proofs.element_listed.Goals as goal

pub returns-then-w-lt-FIRST_DOMAIN : goal.returns-then-w-lt-FIRST_DOMAIN
returns-then-w-lt-FIRST_DOMAIN c = search (rules, listed_function)

pub returns-else-w-lt-FIRST_DOMAIN : goal.returns-else-w-lt-FIRST_DOMAIN
returns-else-w-lt-FIRST_DOMAIN c = search (rules, listed_domain)
