-- What the descriptors of an entry are.
use Rattle.std.specs.Prelude.{ℕ, ◌+◌, ◌*◌, ◌≤◌, ◌≡◌, List}
use Rattle.paper.specs.Table.{read_count, write_count, first_descriptor}
use Rattle.table.specs.Reach.{word_values}
use Rattle.judge_whole.specs.declared.descriptors.Descriptors.{Descriptors}

-- these are the descriptors of entry k, and no more than words can count
pub record Describes (ws : List ℕ) (k : ℕ) (d : Descriptors) : Type 0 where
  pub first : d.first ≡ first_descriptor ws k
  pub reads : d.reads ≡ read_count ws k
  pub writes : d.writes ≡ write_count ws k
  pub near : d.first ≤ 2 * word_values * k
  pub few : d.reads + d.writes ≤ 2 * word_values
