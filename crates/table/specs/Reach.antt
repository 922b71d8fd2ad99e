-- How far a place can lie.
use Rattle.std.specs.Prelude.{ℕ, ◌^◌}
use Rattle.paper.specs.Table.{word_bits}

-- a word holds a number below this
abbrev pub word_values : ℕ
word_values = 2 ^ word_bits

-- past every place that the counts of a table, a word each, can name, and far below what a machine counts to
abbrev pub reach : ℕ
reach = 2 ^ 40
