-- Subject domains for calls and returns, object domains for reads and writes.
use Rattle.std.proofs.Common.{rules}
use Rattle.judge_whole.proofs.Laws.{domains_of_code, domains_of_data}
use Rattle.judge_whole.proofs.domains.Goals as goal

pub returns-then-is_code : goal.returns-then-is_code
returns-then-is_code c = search (rules, domains_of_code)

pub returns : goal.returns
returns c = search (rules, domains_of_data)
