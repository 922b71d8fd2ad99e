-- The loop: the words of the fields before number i are counted.
use Rattle.std.proofs.Common.{rules}
use Rattle.file_things.proofs.Words.{words_more, words_all}
use Rattle.file_things.proofs.list_words.Goals as goal

pub loop-field-preserved : goal.loop-field-preserved
loop-field-preserved c = search (rules, words_more)

pub returns : goal.returns
returns c = search (rules, words_all)
