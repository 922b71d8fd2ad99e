-- The loop: the domains of the members of the lists passed are written.
use Rattle.std.proofs.Common.{rules}
use Rattle.file_table.proofs.Domains.{members_begin, list_within, list_fits, domain_fits, list_again, lists_end, members_length_kept, members_counted, members_all}
use Rattle.file_table.proofs.Stepping.{file_stays}
use Rattle.file_table.proofs.write_members.Goals as goal

pub loop-list-init : goal.loop-list-init
loop-list-init c = search (rules, members_begin)

pub overflow_add-end : goal.overflow_add-end
overflow_add-end c = search (rules, list_fits)

pub slice_bounds-fill-end : goal.slice_bounds-fill-end
slice_bounds-fill-end c = let inv = c.loop-list.invariant in
    let within = list_within c.args.maps c.args.place c.loop-list.list-iterator c.in-Some.list c.next.new.self c.in-Some.ensures.steps inv.2 inv.3 inv.4 _ _ _ inv.5
    _ c.value.ensures _ c.element_count.ensures.0 c.requires.few_members in
    search (rules, within)

pub overflow_add-d : goal.overflow_add-d
overflow_add-d c = search (rules, domain_fits)

pub loop-list-preserved : goal.loop-list-preserved
loop-list-preserved c = search (rules, file_stays, list_again)

pub shape_of-out : goal.shape_of-out
shape_of-out c = search (rules, members_length_kept)

pub returns : goal.returns
returns c = let inv = c.loop-list.invariant in
    let end = lists_end c.args.maps c.loop-list.list-iterator inv.4 c.in-None.ensures.steps in
    record {
      value = members_counted _ _ _ _ _ _ _ _ _ inv.5 end;
      out_after = members_all _ _ _ _ _ _ _ _ _ inv.5 end;
    }
