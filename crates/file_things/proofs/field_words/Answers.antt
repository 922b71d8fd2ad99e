-- By what the field names.
use Rattle.std.proofs.Common.{rules}
use Rattle.file_things.proofs.Words.{one_words, each_words, entry_words_lem, nothing_words, each_most, each_fits}
use Rattle.file_things.proofs.field_words.Goals as goal

pub overflow_mul-result : goal.overflow_mul-result
overflow_mul-result c = search (rules, each_fits)

pub returns-in-One : goal.returns-in-One
returns-in-One c = search (rules, one_words)

pub returns-in-Each : goal.returns-in-Each
returns-in-Each c = search (rules, each_words, each_most)

pub returns-in-Entry : goal.returns-in-Entry
returns-in-Entry c = search (rules, entry_words_lem)

pub returns-in-Nothing : goal.returns-in-Nothing
returns-in-Nothing c = search (rules, nothing_words)
