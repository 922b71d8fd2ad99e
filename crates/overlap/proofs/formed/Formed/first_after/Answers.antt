-- The loop: no pair before i and j clashes, and the words past the witness are kept.
use Rattle.std.proofs.Common.{◌<◌, arith, rules}
use Rattle.overlap.proofs.Words.{few_entries_lem}
use Rattle.overlap.proofs.Pairs.{none_row, none_more, none_done, past_none, clashing}
use Rattle.overlap.proofs.formed.Formed.first_after.Goals as goal

pub overflow_step-j : goal.overflow_step-j
overflow_step-j c = let few = few_entries_lem _ c.args.self.now.formed in omega arith

pub loop-j-init : goal.loop-j-init
loop-j-init c = search (rules, none_row)

pub returns-in-Some : goal.returns-in-Some
returns-in-Some c = let ordered : c.args.i < c.loop-j.j = omega arith in search (rules, clashing)

pub loop-j-preserved : goal.loop-j-preserved
loop-j-preserved c = search (rules, none_more, past_none)

pub returns : goal.returns
returns c = search (rules, none_done)
