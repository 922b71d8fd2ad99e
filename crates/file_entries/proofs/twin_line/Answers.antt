-- The loop: a twin among the entries that are left, of those or of one that was passed, is a twin of all.
use Rattle.std.proofs.Common.{rules}
use Rattle.file_entries.proofs.Twins.{none_hashed, few_start, twins_start, room_left, all_noted, all_on, few_on, twin_found, twin_on, twins_end}
use Rattle.file_entries.proofs.twin_line.Goals as goal

pub loop-k-init : goal.loop-k-init
loop-k-init c = search (rules, none_hashed, few_start, twins_start)

pub bounds-bounds-k : goal.bounds-bounds-k
bounds-bounds-k c =
    let next = c.in-Some.ensures.steps in
    room_left c.args.file _ _ _ next.0 c.loop-k.invariant.2 _ _ next.1 c.loop-k.invariant.6 _ c.loop-k.invariant.3

pub bounds-hashes-k : goal.bounds-hashes-k
bounds-hashes-k c =
    let next = c.in-Some.ensures.steps in
    room_left c.args.file _ _ _ next.0 c.loop-k.invariant.2 _ _ next.1 c.loop-k.invariant.6 _ c.loop-k.invariant.3

pub invariant_of-passed : goal.invariant_of-passed
invariant_of-passed c =
    let next = c.in-Some.ensures.steps in
    let all = all_noted c.args.file _ _ _ next.0 c.loop-k.invariant.2 _ _ next.1 c.loop-k.invariant.6 _ c.loop-k.invariant.3 in
    record { hashed = all _ _ c.loop-k.invariant.4 c.principal_hash.ensures c.loop-k.invariant.5 }

pub returns-then-has_twin : goal.returns-then-has_twin
returns-then-has_twin c =
    let next = c.in-Some.ensures.steps in
    let found = twin_found c.args.file _ _ _ next.0 c.loop-k.invariant.2 _ _ next.1 c.loop-k.invariant.6 _ c.loop-k.invariant.3 in
    found _ c.loop-k.invariant.7 _ c.has_twin.ensures _ c.if-has_twin.true c.line.ensures

pub loop-k-preserved : goal.loop-k-preserved
loop-k-preserved c =
    let next = c.in-Some.ensures.steps in
    let all = all_noted c.args.file _ _ _ next.0 c.loop-k.invariant.2 _ _ next.1 c.loop-k.invariant.6 _ c.loop-k.invariant.3 in
    let on = all_on c.args.file _ _ _ next.0 c.loop-k.invariant.2 _ _ next.1 c.loop-k.invariant.6 _ c.loop-k.invariant.3 _ next.2 in
    let few = few_on c.args.file _ _ _ next.0 c.loop-k.invariant.2 _ _ next.1 c.loop-k.invariant.6 _ c.loop-k.invariant.3 _ next.2 in
    let twin = twin_on c.args.file _ _ _ next.0 c.loop-k.invariant.2 _ _ next.1 c.loop-k.invariant.6 _ c.loop-k.invariant.3 in (
      search rules,
      search rules,
      search rules,
      search rules,
      search rules,
      on _ (all _ _ c.loop-k.invariant.4 c.principal_hash.ensures c.loop-k.invariant.5),
      few,
      twin _ c.loop-k.invariant.7 _ c.has_twin.ensures _ next.2 c.if-has_twin.false,
    )

pub returns : goal.returns
returns c = search (rules, twins_end)
