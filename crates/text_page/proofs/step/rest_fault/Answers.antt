-- What is a value has a first byte, behind which the value is looked at.
use Rattle.std.proofs.Common.{rules}
use Rattle.text_page.proofs.Steps.{rest_layout, rest_value, value_long}
use Rattle.text_page.proofs.step.rest_fault.Goals as goal

pub returns-then-not-one_space_and_value : goal.returns-then-not-one_space_and_value
returns-then-not-one_space_and_value c = search (rules, rest_layout)

pub slice_bounds-value_fault-count : goal.slice_bounds-value_fault-count
slice_bounds-value_fault-count c = search (rules, value_long)

pub slice_bounds-value_fault-start : goal.slice_bounds-value_fault-start
slice_bounds-value_fault-start c = search (rules, value_long)

pub returns : goal.returns
returns c = search (rules, rest_value)
