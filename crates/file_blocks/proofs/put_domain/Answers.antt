-- The domain goes in if its number is below n.
use Rattle.std.proofs.Common.{rules}
use Rattle.file_blocks.proofs.Walked.{no_domain, one_domain_lem}
use Rattle.file_blocks.proofs.put_domain.Goals as goal

pub returns-then-d-n : goal.returns-then-d-n
returns-then-d-n c = search (rules, one_domain_lem)

pub returns-else-d-n : goal.returns-else-d-n
returns-else-d-n c = search (rules, no_domain)
