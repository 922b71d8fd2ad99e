-- Case by case.
use Rattle.std.proofs.Common.{rules}
use Rattle.judge_entries.proofs.Passes.{code_called, data_otherwise}
use Rattle.judge_entries.proofs.is_code.Goals as goal

pub returns-in-Call : goal.returns-in-Call
returns-in-Call c = code_called _ c.in-Call.is

pub returns-in_default : goal.returns-in_default
returns-in_default c = search (rules, data_otherwise)
