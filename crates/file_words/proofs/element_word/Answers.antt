-- `all`, a function, or a subject domain.
use Rattle.std.proofs.Common.{rules}
use Rattle.file_words.proofs.Writing.{word_of_all, word_of_function, word_of_domain, lent_number}
use Rattle.file_words.proofs.element_word.Goals as goal

pub returns-then-is_all : goal.returns-then-is_all
returns-then-is_all c = search (rules, word_of_all)

pub returns-then-number-functions : goal.returns-then-number-functions
returns-then-number-functions c = search (rules, word_of_function)

pub returns : goal.returns
returns c = search (rules, word_of_domain, lent_number)
