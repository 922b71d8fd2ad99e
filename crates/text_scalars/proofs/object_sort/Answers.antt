-- The chain of words, one after another.
use Rattle.std.proofs.Common.{rules}
use Rattle.laws.proofs.Chains.{chain_found, chain_on}
use Rattle.text_scalars.proofs.object_sort.Goals as goal

pub returns-then-same : goal.returns-then-same
returns-then-same c = search (rules, chain_found, chain_on)

pub returns-then-same-2 : goal.returns-then-same-2
returns-then-same-2 c = search (rules, chain_found, chain_on)

pub returns-then-same-3 : goal.returns-then-same-3
returns-then-same-3 c = search (rules, chain_found, chain_on)

pub returns-then-same-4 : goal.returns-then-same-4
returns-then-same-4 c = search (rules, chain_found, chain_on)

pub returns-then-same-5 : goal.returns-then-same-5
returns-then-same-5 c = search (rules, chain_found, chain_on)

pub returns-then-same-6 : goal.returns-then-same-6
returns-then-same-6 c = search (rules, chain_found, chain_on) depth 8

pub returns : goal.returns
returns c = search (rules, chain_found, chain_on) depth 8
