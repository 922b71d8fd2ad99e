-- Skipped or not, the field above empty or not, ended or not; then the place that its key has.
use Rattle.std.proofs.Common.{rules}
use Rattle.text_page.proofs.Steps.{skip_ended, skip_empty, skip_open, line_empty, line_open, no_place, some_place, line_place}
use Rattle.text_page.proofs.step.line_step.Goals as goal

pub returns-then-ended-clause-by_index : goal.returns-then-ended-clause-by_index
returns-then-ended-clause-by_index c = λ from. search (rules, skip_ended)

pub returns-in_err-above_is_full-clause-by_index : goal.returns-in_err-above_is_full-clause-by_index
returns-in_err-above_is_full-clause-by_index c = λ from. search (rules, skip_empty)

pub returns-then-skipped-clause-by_index : goal.returns-then-skipped-clause-by_index
returns-then-skipped-clause-by_index c = λ from. search (rules, skip_open)

pub returns-in_err-above_is_full-2-clause-by_index : goal.returns-in_err-above_is_full-2-clause-by_index
returns-in_err-above_is_full-2-clause-by_index c = λ from. search (rules, line_empty)

pub returns-then-not-ended-clause-by_index : goal.returns-then-not-ended-clause-by_index
returns-then-not-ended-clause-by_index c = λ from. search (rules, line_open)

pub returns-in_err-found-clause-by_index : goal.returns-in_err-found-clause-by_index
returns-in_err-found-clause-by_index c = λ from. search (rules, no_place)

pub place_step-requires-clause-found : goal.place_step-requires-clause-found
place_step-requires-clause-found c =
    some_place
    c.args.st
    c.args.n
    c.args.l.now
    c.args.ended
    0
    c.skipped.result
    c.row_at-row.result
    c.begins_block-here.result
    c.skipped.ensures
    (search rules)
    (search rules)
    (search rules)
    (search rules)
    c.places_for-places.result.now
    c.places_for-places.ensures
    (search rules)
    c.place_of.result
    c.place_of.ensures
    (record { number = 4; line = c.args.n })
    c.in_ok-found.found
    (search (rules, c.in_ok-found.was))

pub returns-clause-by_index : goal.returns-clause-by_index
returns-clause-by_index c = λ from. search (rules, line_place)
