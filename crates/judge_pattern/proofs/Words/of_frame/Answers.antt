-- Its own word, and that of the domain where it is listed.
use Rattle.std.proofs.Common.{rules}
use Rattle.judge_pattern.proofs.FirstAndLast.{unlisted_words, listed_words}
use Rattle.judge_pattern.proofs.Words.of_frame.Goals as goal

pub returns-in-Some : goal.returns-in-Some
returns-in-Some c = search (rules, listed_words)

pub returns-in-None : goal.returns-in-None
returns-in-None c = search (rules, unlisted_words)
