-- Too short, or what the words that it needs say.
use Rattle.std.proofs.Common.{rules, arith}
use Rattle.std.proofs.lemmas.Grind.{common_steps}
use Rattle.table_test.proofs.Laws.{first_words_enough, first_words_decide, whole}
use Rattle.table_test.proofs.well_formed.Goals as goal

pub words_fit-requires : goal.words_fit-requires
words_fit-requires c = search (rules, first_words_enough)

pub returns-then-t-ge-TABLE_WORDS : goal.returns-then-t-ge-TABLE_WORDS
returns-then-t-ge-TABLE_WORDS c = search (rules, first_words_decide)

pub returns-else-t-ge-TABLE_WORDS : goal.returns-else-t-ge-TABLE_WORDS
returns-else-t-ge-TABLE_WORDS c = grind (arith, common_steps, whole c.args.t.now)
