-- One look, which is right by the test computed over the whole table.
use Rattle.std.proofs.Common.{rules}
use Rattle.paper.specs.Common.{any_of, up_to}
use Rattle.paper.specs.Scalars.{identifier_byte}
use Rattle.text_bytes.specs.Marks.{part_mark}
use Rattle.text_bytes.proofs.Table.{marks, look_passing}
use Rattle.text_bytes.proofs.identifier_byte.Goals as goal

pub returns : goal.returns
unfolding identifier_byte any_of up_to
returns c = search (rules, look_passing identifier_byte, marks (part_mark identifier_byte))
