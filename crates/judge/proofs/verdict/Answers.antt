-- Each case in the order of the paper.
use Rattle.std.proofs.Common.{rules}
use Rattle.judge.proofs.Laws.{top_unlisted, target_unlisted, event_placed, stays_inside, entries_decide}
use Rattle.judge.proofs.verdict.Goals as goal

pub returns-then-domains-f : goal.returns-then-domains-f
returns-then-domains-f c = search (rules, top_unlisted)

pub returns-then-not-target_listed : goal.returns-then-not-target_listed
returns-then-not-target_listed c = search (rules, target_unlisted)

pub returns-then-inside_one_domain : goal.returns-then-inside_one_domain
returns-then-inside_one_domain c = search (rules, stays_inside)

pub by_entries-requires : goal.by_entries-requires
by_entries-requires c = search (rules, event_placed)

pub returns : goal.returns
returns c = search (rules, entries_decide)
