-- The loop: no pair before row i clashes, and the words past the witness are kept.
use Rattle.std.proofs.Common.{rules}
use Rattle.overlap.proofs.Pairs.{none_start, none_next, none_end, past_next, lower_listed, higher_listed, few_frames_lem, clash_told, left_same}
use Rattle.overlap.proofs.formed.Formed.first_clash.Goals as goal

pub loop-i-init : goal.loop-i-init
loop-i-init c = search (rules, none_start)

pub clash_of-requires : goal.clash_of-requires
clash_of-requires c = let good = c.args.self.now.formed in search (rules, lower_listed, higher_listed, few_frames_lem)

pub returns-in-Some : goal.returns-in-Some
returns-in-Some c = search (rules, clash_told)

pub loop-i-preserved : goal.loop-i-preserved
loop-i-preserved c = search (rules, none_next, past_next)

pub returns : goal.returns
returns c = search (rules, none_end, left_same)
