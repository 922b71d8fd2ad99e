-- No field, or the field's value.
use Rattle.std.proofs.Common.{rules}
use Rattle.file_blocks.proofs.Entries.{every_omitted, every_told}
use Rattle.file_blocks.proofs.is_every.Goals as goal

pub returns-then-part-i : goal.returns-then-part-i
returns-then-part-i c = search (rules, every_omitted)

pub returns : goal.returns
returns c = search (rules, every_told)
