-- Each sort by its clause.
use Rattle.std.proofs.Common.{rules}
use Rattle.judge_match.proofs.Laws.{all_or_variable_fits, root_fits, user_fits}
use Rattle.judge_match.proofs.sort_fits.Goals as goal

pub returns-then-sort-le-VARIABLE : goal.returns-then-sort-le-VARIABLE
returns-then-sort-le-VARIABLE c = search (rules, all_or_variable_fits)

pub returns-then-sort-eq-ROOT : goal.returns-then-sort-eq-ROOT
returns-then-sort-eq-ROOT c = search (rules, root_fits)

pub returns : goal.returns
returns c = search (rules, user_fits)
