-- The words of no pattern.
use Rattle.std.proofs.Common.{rules}
use Rattle.file_words.proofs.Writing.{domains_written}
use Rattle.file_words.proofs.domain_words.Goals as goal

pub returns : goal.returns
returns c = search (rules, domains_written)
