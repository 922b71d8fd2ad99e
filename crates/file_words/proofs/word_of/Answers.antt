-- By whether it stands in a pattern.
use Rattle.std.proofs.Common.{rules}
use Rattle.file_words.proofs.Writing.{word_of_name, word_of_element}
use Rattle.file_words.proofs.word_of.Goals as goal

pub returns-then-pattern : goal.returns-then-pattern
returns-then-pattern c = search (rules, word_of_element)

pub returns-else-pattern : goal.returns-else-pattern
returns-else-pattern c = search (rules, word_of_name)
