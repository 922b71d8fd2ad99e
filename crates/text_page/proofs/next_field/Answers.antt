-- The loop: what the walk answers for the lines that are left is what it answers at the cursor, and what is left of the page is what was.
use Rattle.std.proofs.Common.{rules, ◌≡◌, ◌∙◌, Err}
use Rattle.text_page.specs.Walk.{next_left, page_left}
use Rattle.text_page.proofs.Walking.{walk_line, walk_on, found_within, next_skip, next_stop, next_field, next_ends, page_skip, page_stop, page_field, page_ends, ends_within}
use Rattle.text_page.proofs.next_field.Goals as goal

pub returns-in_err-keyed-clause-value : goal.returns-in_err-keyed-clause-value
unfolding next_left page_left
returns-in_err-keyed-clause-value c =
    let p : c.from_residual.result ≡ Err c.in_err-keyed.field-0.0 = search rules in
    p
    ∙ next_stop
    c.args.t.now
    c.loop-at.at
    c.line_at-l.result
    c.line_at-l.ensures
    c.args.c.state
    c.loop-at.line
    c.line_step.result
    c.line_step.ensures.by_index
    _
    c.loop-at.invariant.2
    c.in_err-keyed.field-0.0
    c.in_err-keyed.was

pub returns-in_err-keyed-clause-c_value : goal.returns-in_err-keyed-clause-c_value
unfolding next_left page_left
returns-in_err-keyed-clause-c_value c =
    let p : c.from_residual.result ≡ Err c.in_err-keyed.field-0.0 = search rules in
    rw p (
      page_stop
          c.args.t.now
          c.loop-at.at
          c.line_at-l.result
          c.line_at-l.ensures
          c.args.c.state
          c.loop-at.line
          c.line_step.result
          c.line_step.ensures.by_index
          _
          c.loop-at.invariant.3
          c.in_err-keyed.field-0.0
          c.in_err-keyed.was,
      tt,
    )

pub returns-in-Some-clause-value : goal.returns-in-Some-clause-value
unfolding next_left page_left
returns-in-Some-clause-value c = search (rules, next_field)

pub returns-in-Some-clause-c_value : goal.returns-in-Some-clause-c_value
unfolding next_left page_left
returns-in-Some-clause-c_value c = (
  search (rules, page_field),
  found_within
      c.args.t.now
      c.loop-at.at
      c.line_at-l.result
      c.line_at-l.ensures
      c.args.c.state
      c.loop-at.line
      c.line_step.result
      c.line_step.ensures.by_index
      c.args.c.at
      c.in-Some.keyed
      c.line_step.ensures.starts_in
      (search (rules, c.in_ok-keyed.was))
      (search rules)
      (search rules)
      (search rules),
)

pub loop-at-preserved : goal.loop-at-preserved
loop-at-preserved c = (search (rules, walk_line), search (rules, walk_on), search (rules, next_skip), search (rules, page_skip))

pub returns-clause-value : goal.returns-clause-value
unfolding next_left page_left
returns-clause-value c = search (rules, next_ends)

pub returns-clause-c_value : goal.returns-clause-c_value
unfolding next_left page_left
returns-clause-c_value c = (search (rules, page_ends), search (rules, ends_within))
