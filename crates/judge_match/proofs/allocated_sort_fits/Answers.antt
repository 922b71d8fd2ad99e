-- A variable by its own clause, any other sort as in an entry.
use Rattle.std.proofs.Common.{rules}
use Rattle.judge_match.proofs.Laws.{variable_is_bound, others_fit_likewise}
use Rattle.judge_match.proofs.allocated_sort_fits.Goals as goal

pub returns-then-sort-eq-VARIABLE : goal.returns-then-sort-eq-VARIABLE
returns-then-sort-eq-VARIABLE c = search (rules, variable_is_bound)

pub returns : goal.returns
returns c = search (rules, others_fit_likewise)
