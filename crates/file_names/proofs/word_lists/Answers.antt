-- The words are looked up; the lists are told by them.
use Rattle.std.proofs.Common.{rules}
use Rattle.file_names.proofs.Scanned.{somehow}
use Rattle.file_names.proofs.word_lists.Goals as goal

pub lists_line-requires-clause-worded_somehow : goal.lists_line-requires-clause-worded_somehow
lists_line-requires-clause-worded_somehow c = search (rules, somehow)
