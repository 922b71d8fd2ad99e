-- The word that stands at the entry's subject.
use Rattle.std.proofs.Common.{rules}
use Rattle.judge_match.proofs.Laws.{subject_compared}
use Rattle.judge_match.proofs.has_subject.Goals as goal

pub returns : goal.returns
returns g c = search (rules, subject_compared)
