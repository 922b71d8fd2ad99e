-- One test or the other.
use Rattle.std.proofs.Common.{rules}
use Rattle.file_words.proofs.Looking.{either}
use Rattle.file_words.proofs.places.is_either.Goals as goal

pub returns : goal.returns
returns c = search (rules, either)
