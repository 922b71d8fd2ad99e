-- The part of the text from the start of the place up to its end.
use Rattle.std.proofs.Common.{rules}
use Rattle.file_lookup.proofs.Answered.{very_stretch}
use Rattle.file_lookup.proofs.name.Goals as goal

pub returns : goal.returns
returns c = search (rules, very_stretch)
