-- The subject is asked first, then the grant.
use Rattle.std.proofs.Common.{rules}
use Rattle.judge_entries.proofs.Passes.{another_subject, grant_decides, code_asked}
use Rattle.judge_entries.proofs.code_granted.Goals as goal

pub returns-then-not-has_subject : goal.returns-then-not-has_subject
returns-then-not-has_subject g c = search (rules, another_subject)

pub returns : goal.returns
returns g c = search (rules, grant_decides)

pub grant_holds-requires-clause-among : goal.grant_holds-requires-clause-among
grant_holds-requires-clause-among g c = code_asked g.R.Reading.may_ask c.args.case.now.table.now c.args.case.now.event.access _ _ c.requires.ready.listed c.requires.of_code c.requires.grant_bound.1
