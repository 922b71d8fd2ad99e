-- Test after test, as the definition has them.
use Rattle.std.proofs.Common.{rules}
use Rattle.text_page.proofs.Walking.{end_empty, end_right, end_missing}
use Rattle.text_page.proofs.at_end.Goals as goal

pub returns-in_err-above_is_full : goal.returns-in_err-above_is_full
returns-in_err-above_is_full c = search (rules, end_empty)

pub returns-then-row_at : goal.returns-then-row_at
returns-then-row_at c = search (rules, end_right)

pub returns : goal.returns
returns c = search (rules, end_missing)
