-- No room, or the list is written.
use Rattle.std.proofs.Common.{rules}
use Rattle.file_listing.proofs.Answers.{listed_is, left_short, left_listed}
use Rattle.file_listing.proofs.list_fitting.Goals as goal

pub returns-then-out-words : goal.returns-then-out-words
returns-then-out-words c = search (rules, listed_is, left_short)

pub returns : goal.returns
returns c = search (rules, listed_is, left_listed)
