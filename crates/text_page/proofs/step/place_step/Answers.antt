-- What stands behind the key decides.
use Rattle.std.proofs.Common.{rules}
use Rattle.text_page.proofs.Steps.{place_bare, place_stop, place_right}
use Rattle.text_lists.proofs.Laws.{is_fault, is_some_fault}
use Rattle.text_page.proofs.step.place_step.Goals as goal

pub returns-then-behind-l-clause-by_index : goal.returns-then-behind-l-clause-by_index
returns-then-behind-l-clause-by_index c = λ st from ended. search (rules, place_bare)

pub returns-in-Err-clause-by_index : goal.returns-in-Err-clause-by_index
returns-in-Err-clause-by_index c = λ st from ended. search (rules, place_stop, is_fault, is_some_fault)

pub returns-clause-by_index : goal.returns-clause-by_index
returns-clause-by_index c = λ st from ended. search (rules, place_right)
