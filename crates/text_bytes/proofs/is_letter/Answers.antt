-- One expression, which is the definition opened.
use Rattle.std.proofs.Common.{rules}
use Rattle.text_bytes.proofs.Laws.{letter_is}
use Rattle.text_bytes.proofs.is_letter.Goals as goal

pub returns : goal.returns
returns c = search (rules, letter_is)
