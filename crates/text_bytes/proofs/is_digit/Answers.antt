-- One expression, which is the definition opened.
use Rattle.std.proofs.Common.{rules}
use Rattle.text_bytes.proofs.Laws.{digit_is}
use Rattle.text_bytes.proofs.is_digit.Goals as goal

pub returns : goal.returns
returns c = search (rules, digit_is)
