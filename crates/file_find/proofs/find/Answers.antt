-- The loop: the number among the things that are left, and those of the kind that were passed, make the number.
use Rattle.std.proofs.Common.{rules, refl, arith, ◌≡◌, ◌<◌, ◌/◌, length}
use Rattle.file_find.proofs.Finding.{number_low, same_kind, other_kind, one_is, find_begins, find_found, find_on, find_ends}
use Rattle.file_find.proofs.find.Goals as goal
use Rattle.file_find.proofs.find.Goals.{else-thing-kind-via-then-thing-kind+else-has_name, else-thing-kind-via-else-thing-kind}

pub loop-thing-init : goal.loop-thing-init
loop-thing-init c = (search rules, search (rules, find_begins))

pub returns-then-has_name : goal.returns-then-has_name
returns-then-has_name c =
    let l : length c.as_chunks.result.0.now ≡ length c.args.list.now / 4 = c.as_chunks.ensures.front_len in
    let h : c.loop-thing.thing-index < length c.args.list.now / 4 = omega arith in
    find_found _ _ _ _ _ _ _ _ c.loop-thing.invariant.1 h _ (same_kind _ _ _ _ h _ c.as_chunks.ensures.front _ c.if-thing-kind.true _ c.has_name.ensures) c.if-has_name.true

pub loop-thing-preserved : goal.loop-thing-preserved
loop-thing-preserved c =
    let l : length c.as_chunks.result.0.now ≡ length c.args.list.now / 4 = c.as_chunks.ensures.front_len in
    let h : c.loop-thing.thing-index < length c.args.list.now / 4 = omega arith in
    let one = one_is c.args.text.now c.args.list.now c.args.name.now _ h _ c.as_chunks.ensures.front _ _ c.from-number.ensures in (
      search (rules, number_low),
      elim c.else-thing-kind.branch [
        | else-thing-kind-via-then-thing-kind+else-has_name w ↦
            find_on _ _ _ _ _ _ _ _ c.loop-thing.invariant.1 h _ (same_kind _ _ _ _ h _ c.as_chunks.ensures.front _ w.if-thing-kind.true _ w.has_name.ensures) w.if-has_name.false _ one
        | else-thing-kind-via-else-thing-kind w ↦
            find_on _ _ _ _ _ _ _ _ c.loop-thing.invariant.1 h _ (other_kind _ _ _ _ h _ c.as_chunks.ensures.front _ w.if-thing-kind.false) refl _ one
      ],
    )

pub returns : goal.returns
returns c =
    let l : length c.as_chunks.result.0.now ≡ length c.args.list.now / 4 = c.as_chunks.ensures.front_len in
    find_ends _ _ _ _ _ _ _ _ c.loop-thing.invariant.1 (omega arith)
