-- No sum is too large: a weight, and four bytes as one number, are below 2 to the 32.
use Rattle.std.proofs.Common.{rules}
use Rattle.file_index.proofs.Steps.{hash_below}
use Rattle.file_entries.proofs.Weights.{eight_is}
use Rattle.file_entries.proofs.with_eight.Goals as goal

pub returns : goal.returns
returns c = search (rules, eight_is, hash_below)
