-- The loop: the index knows what the fields before name, and the line of what is left is the line of all.
use Rattle.std.proofs.Common.{rules}
use Rattle.file_names.specs.Naming.{named}
use Rattle.file_names.proofs.Entering.{no_names, line_first, named_room, named_spacing, field_room, told_twice, index_on, line_on, told_all}
use Rattle.file_names.proofs.indexes.index_all.Goals as goal

pub loop-i-init : goal.loop-i-init
loop-i-init c = (search rules, search (rules, no_names), search (rules, line_first))

pub enter_field-requires-clause-i_in_bounds : goal.enter_field-requires-clause-i_in_bounds
enter_field-requires-clause-i_in_bounds c = search (rules, named_room)

pub enter_field-requires-clause-i_value : goal.enter_field-requires-clause-i_value
enter_field-requires-clause-i_value c = search (rules, named_spacing)

pub enter_field-requires-clause-room : goal.enter_field-requires-clause-room
enter_field-requires-clause-room c = search (rules, field_room (named c.args.naming))

pub returns-in-None : goal.returns-in-None
returns-in-None c = search (rules, told_twice)

pub loop-i-preserved : goal.loop-i-preserved
loop-i-preserved c = (
  search rules,
  index_on (named c.args.naming) _ _ _ _ _ c.enter_field.ensures.entered_as _ (search rules),
  search (
    rules,
    line_on (named c.args.naming),
    c.enter_field.ensures.entered_as,
  ),
)

pub returns : goal.returns
returns c = search (rules, told_all)
