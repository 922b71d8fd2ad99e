-- The subject is asked first, then the entry's own descriptors for the access.
use Rattle.std.proofs.Common.{rules}
use Rattle.judge_entries.proofs.Passes.{another_subject}
use Rattle.judge_whole.proofs.Laws.{asked_grant}
use Rattle.judge_whole.proofs.data_granted.Goals as goal

pub returns-then-not-has_subject : goal.returns-then-not-has_subject
returns-then-not-has_subject g c = search (rules, another_subject)

pub returns : goal.returns
returns g c = search (rules, asked_grant)
