-- The loop: the set with the domains that are left is the set with all of them.
use Rattle.std.proofs.Common.{rules}
use Rattle.file_blocks.proofs.Walked.{domains_done, domains_long, domains_again}
use Rattle.file_blocks.proofs.put_domains.Goals as goal

pub loop-word-preserved : goal.loop-word-preserved
loop-word-preserved c = (search (rules, domains_long), search (rules, domains_again))

pub returns : goal.returns
returns c = search (rules, domains_done)
