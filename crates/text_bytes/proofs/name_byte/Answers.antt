-- One look, which is right by the test computed over the whole table.
use Rattle.std.proofs.Common.{rules}
use Rattle.paper.specs.Common.{any_of, up_to}
use Rattle.paper.specs.Scalars.{is_letter, is_digit, name_byte}
use Rattle.text_bytes.specs.Marks.{mark}
use Rattle.text_bytes.proofs.Table.{marks, look_whole}
use Rattle.text_bytes.proofs.name_byte.Goals as goal

pub returns : goal.returns
unfolding name_byte is_letter is_digit any_of up_to
returns c = search (rules, look_whole name_byte, marks (λ b. mark (name_byte b)))
