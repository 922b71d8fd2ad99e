-- By what the word is.
use Rattle.std.proofs.Common.{rules}
use Rattle.overlap_cells.proofs.Beginnings.{of_all, of_function, of_domain}
use Rattle.overlap_cells.proofs.element.ElementFromU16.from.Goals as goal

pub returns-then-word-eq-ALL : goal.returns-then-word-eq-ALL
returns-then-word-eq-ALL c = search (rules, of_all)

pub returns-then-word-lt-FIRST_DOMAIN : goal.returns-then-word-lt-FIRST_DOMAIN
returns-then-word-lt-FIRST_DOMAIN c = search (rules, of_function)

pub returns-else-word-lt-FIRST_DOMAIN : goal.returns-else-word-lt-FIRST_DOMAIN
returns-else-word-lt-FIRST_DOMAIN c = search (rules, of_domain)
