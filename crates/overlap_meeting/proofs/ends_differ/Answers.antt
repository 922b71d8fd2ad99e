-- The first elements are apart, or the last.
use Rattle.overlap_meeting.proofs.Ends.{begin_apart, end_apart}
use Rattle.overlap_meeting.proofs.ends_differ.Goals as goal

pub returns-then-differ : goal.returns-then-differ
returns-then-differ c =
    let p = c.in-Some-Some-Some-Some.ensures.item.3 in
    let q = c.in-Some-Some-Some-Some.ensures'.item.3 in
    λ t. begin_apart _ _ _ _ _ _ _ c.from.ensures c.from-2.ensures (c.differ.ensures t) p.0 q.0 (p.1 0) (q.1 0)

pub returns-else-differ : goal.returns-else-differ
returns-else-differ c =
    let p = c.in-Some-Some-Some-Some.ensures''.item.3 in
    let q = c.in-Some-Some-Some-Some.ensures'''.item.3 in
    λ t. end_apart _ _ _ _ _ _ _ c.from-else-differ.ensures c.from-else-differ-2.ensures (c.differ-else-differ.ensures t) p.0 q.0 (p.1 0) (q.1 0)
