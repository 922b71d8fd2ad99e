-- A word below the first domain's is a function; any other a domain, which an unlisted frame does not lie in.
use Rattle.std.proofs.Common.{rules}
use Rattle.judge_pattern.proofs.Laws.{function_decides, unlisted_in_none, domain_decides}
use Rattle.judge_pattern.proofs.meets.Goals as goal

pub returns-then-one-lt-FIRST_DOMAIN : goal.returns-then-one-lt-FIRST_DOMAIN
returns-then-one-lt-FIRST_DOMAIN c = search (rules, function_decides)

pub returns-in-Some : goal.returns-in-Some
returns-in-Some c = search (rules, domain_decides)

pub returns-in-None : goal.returns-in-None
returns-in-None c = search (rules, unlisted_in_none)
