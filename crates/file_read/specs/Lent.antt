-- The table lent to be written: whoever wants the rules alone lends one that is too short for the words.
use Rattle.std.specs.Prelude.{ℕ, ◌≤◌, ◌≡◌, List, ◌++◌, length, take, drop, replicate}
use Rattle.paper.specs.Limits.{table_words}
use Rattle.paper.specs.Page.{Outcome}
use Rattle.paper.specs.Promises.{words_read}

-- where there is room for the words, the front is zero
pub record Cleared (table : List ℕ) : Type 0 where
  pub clear : table_words ≤ length table → take table_words table ≡ replicate table_words 0

-- where there is room for the words, they are there
pub record Left (o : Outcome) (table after : List ℕ) : Type 0 where
  pub words : table_words ≤ length table → after ≡ words_read o ++ drop table_words table
