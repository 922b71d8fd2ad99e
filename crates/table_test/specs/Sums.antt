-- Sums of words, by which most principals are told apart.
use Rattle.std.specs.Prelude.{ℕ, ◌+◌, ◌*◌, ◌<◌, ◌≡◌, List, Bool, not, eqb, length, take, drop, get_or, sum_by}
use Rattle.std.specs.List.{enumerate_from}
use Rattle.paper.specs.Table.{principal_size, entry_at}

-- a word at a place, as often as the place says, the first place being 1
abbrev pub weight : ℕ × ℕ → ℕ
weight p = p.1 * (p.0 + 1)

-- the sum of the weights of all words
abbrev pub weighed : List ℕ → ℕ
weighed ws = sum_by weight (enumerate_from 0 ws)

-- the sum is another one
abbrev pub is_other_sum : ℕ → ℕ → Bool
is_other_sum sum other = not (eqb other sum)

-- the words that say whose entry k is
abbrev pub principal_words : List ℕ → ℕ → List ℕ
principal_words ws k = take principal_size (drop (entry_at k) ws)

abbrev pub principal_sum : List ℕ → ℕ → ℕ
principal_sum ws k = weighed (principal_words ws k)

-- the sums of the first principals
pub record Summed (ws sums : List ℕ) : Type 0 where
  pub each : (j : ℕ) → j < length sums → get_or sums j 0 ≡ principal_sum ws j
