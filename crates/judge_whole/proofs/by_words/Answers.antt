-- The two passes decide.
use Rattle.std.proofs.Common.{rules}
use Rattle.judge_entries.proofs.Passes.{no_entry_matches, from_first}
use Rattle.judge_whole.proofs.by_words.Goals as goal
use Rattle.judge_whole.proofs.by_words.Goals.{in-Some, in-None}

pub returns : goal.returns
returns g c =
    elim c.match-matching.branch [
      | in-Some w ↦ search (rules, from_first)
      | in-None w ↦ search (rules, no_entry_matches)
    ]
