-- The loop: the place found from word w and turn d on is the place found from the head of the bucket on.
use Rattle.std.proofs.Common.{rules}
use Rattle.file_index.proofs.Steps.{at_head, head_within, free_low, free_past, within_free, name_found, within_found, name_passed}
use Rattle.file_index.proofs.names.Names.way_end.Goals as goal

pub loop-last-init : goal.loop-last-init
loop-last-init c = search (rules, at_head, head_within)

pub returns-then-i-last-clause-value : goal.returns-then-i-last-clause-value
returns-then-i-last-clause-value c = search (rules, free_low)

pub returns-then-i-last-clause-within : goal.returns-then-i-last-clause-within
returns-then-i-last-clause-within c = search (rules, within_free)

pub returns-then-self-i-clause-value : goal.returns-then-self-i-clause-value
returns-then-self-i-clause-value c = search (rules, free_past)

pub returns-then-self-i-clause-within : goal.returns-then-self-i-clause-within
returns-then-self-i-clause-within c = search (rules, within_free)

pub returns-then-is_name-clause-value : goal.returns-then-is_name-clause-value
returns-then-is_name-clause-value c = search (rules, name_found)

pub returns-then-is_name-clause-within : goal.returns-then-is_name-clause-within
returns-then-is_name-clause-within c = search (rules, within_found)

pub loop-last-preserved : goal.loop-last-preserved
loop-last-preserved c = (search (rules, name_passed), search rules, search rules, search rules)
