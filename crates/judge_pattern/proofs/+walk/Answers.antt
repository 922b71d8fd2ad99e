-- What each way out of the loop says of the whole match.
use Rattle.std.proofs.Common.{rules, ◌≡◌, ◌<◌, not, eqb, length, position}
use Rattle.std.proofs.lemmas.Iterator.{YieldsList-from_slice}
use Rattle.std.proofs.lemmas.Iterator.Search.{position_from_yields_List}
use Rattle.judge_pattern.proofs.Laws.{nothing_but_all, behind_alls, none_left_meets, meeting_in_stack, at_meeting, left_at_meeting, walk_matches, walk_never, walk_falls, walk_all, walk_swallows}
use Rattle.judge_pattern.proofs.+walk.Goals as goal

pub returns-in_default : goal.returns-in_default
returns-in_default t c =
    let told : c.position.result ≡ position (λ w. not (eqb w 0)) c.args.pattern.now =
    position_from_yields_List (λ w. not (eqb w 0)) _ _ c.position.result c.position.ensures.ran (YieldsList-from_slice c.args.pattern.now cc) (λ x b q k. search rules) in
    nothing_but_all _ _ _ (search rules)

pub loop-k-init : goal.loop-k-init
loop-k-init t c =
    let told : c.position.result ≡ position (λ w. not (eqb w 0)) c.args.pattern.now =
    position_from_yields_List (λ w. not (eqb w 0)) _ _ c.position.result c.position.ensures.ran (YieldsList-from_slice c.args.pattern.now cc) (λ x b q k. search rules) in
    behind_alls _ _ _ _ (search rules)

pub offset_bounds-left-k : goal.offset_bounds-left-k
offset_bounds-left-k t c =
    let room : c.in-Some-next_meeting.k < length c.args.stack.now = meeting_in_stack _ _ _ _ _ _ c.loop-k.invariant (search rules) in
    search rules

pub walk-requires : goal.walk-requires
walk-requires t c =
    (walk_falls _ _ _ _ _ (at_meeting _ _ _ _ _ _ c.loop-k.invariant (search rules)) _ c.up_to_all.ensures _ _ c.in-All.is _ (search rules), tt)

pub returns-in-Match : goal.returns-in-Match
returns-in-Match t c =
    walk_matches _ _ _ _ _ (at_meeting _ _ _ _ _ _ c.loop-k.invariant (search rules)) _ c.up_to_all.ensures c.in-Match.is

pub returns-in-Never : goal.returns-in-Never
returns-in-Never t c =
    walk_never _ _ _ _ _ (at_meeting _ _ _ _ _ _ c.loop-k.invariant (search rules)) _ c.up_to_all.ensures c.in-Never.is

pub returns-in-All : goal.returns-in-All
returns-in-All t c =
    walk_all _ _ _ _ _ (at_meeting _ _ _ _ _ _ c.loop-k.invariant (search rules)) _ c.up_to_all.ensures _ _ c.in-All.is _ c.walk.ensures

pub loop-k-preserved : goal.loop-k-preserved
loop-k-preserved t c =
    walk_swallows _ _ _ _ _ (at_meeting _ _ _ _ _ _ c.loop-k.invariant (search rules)) _ c.up_to_all.ensures c.in-Fail.is (left_at_meeting _ _ _ _ _ _ c.loop-k.invariant (search rules))

pub returns : goal.returns
returns t c = search (rules, none_left_meets)
