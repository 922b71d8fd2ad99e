-- The loop: the first of what is left is the first of all.
use Rattle.std.proofs.Common.{rules}
use Rattle.file_fields.proofs.Firsts.{item_first, item_on, item_nowhere}
use Rattle.file_entries.proofs.entry_unbound_line.Goals as goal

pub returns-then-is_unbound : goal.returns-then-is_unbound
returns-then-is_unbound c = search (rules, item_first)

pub loop-field-preserved : goal.loop-field-preserved
loop-field-preserved c = search (rules, item_on)

pub returns : goal.returns
returns c = search (rules, item_nowhere)
