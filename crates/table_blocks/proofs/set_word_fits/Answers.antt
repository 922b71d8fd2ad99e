-- A word with no bit from the used ones up is below that power of two.
use Rattle.std.proofs.Common.{rules}
use Rattle.table_blocks.proofs.Laws.{set_word}
use Rattle.table_blocks.proofs.set_word_fits.Goals as goal

pub returns : goal.returns
returns c = search (rules, set_word)
