-- One expression, which is the definition opened.
use Rattle.std.proofs.Common.{rules}
use Rattle.text_bytes.proofs.Laws.{identifier_first_is}
use Rattle.text_bytes.proofs.identifier_first.Goals as goal

pub returns : goal.returns
returns c = search (rules, identifier_first_is)
