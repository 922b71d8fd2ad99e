-- Each operation by its clause.
use Rattle.std.proofs.Common.{rules}
use Rattle.judge.proofs.Laws.{is_read, is_write_lem, is_call, is_return}
use Rattle.judge.proofs.access_for.Goals as goal

pub returns-in-1 : goal.returns-in-1
returns-in-1 c = search (rules, is_read)

pub returns-in-2 : goal.returns-in-2
returns-in-2 c = search (rules, is_write_lem)

pub returns-in-3 : goal.returns-in-3
returns-in-3 c = search (rules, is_call)

pub returns-in-4 : goal.returns-in-4
returns-in-4 c = search (rules, is_return)
