-- Each access by its clause.
use Rattle.std.proofs.Common.{rules}
use Rattle.paper.specs.Verdict.{target_number}
use Rattle.judge.proofs.target_number.Goals as goal

pub returns-in-Read : goal.returns-in-Read
unfolding target_number
returns-in-Read c = search rules

pub returns-in-Write : goal.returns-in-Write
unfolding target_number
returns-in-Write c = search rules

pub returns-in-Call : goal.returns-in-Call
unfolding target_number
returns-in-Call c = search rules

pub returns-in-Return : goal.returns-in-Return
unfolding target_number
returns-in-Return c = search rules
