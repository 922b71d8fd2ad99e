-- The next field of the pattern's place, and the values of the other keys, have the context.
use Rattle.std.proofs.Common.{rules}
use Rattle.file_fields.proofs.Places.{pattern_fits, uid_fits, gid_fits, namespace_fits}
use Rattle.file_blocks.proofs.Contexts.{pattern_of, context_at_lem}
use Rattle.file_blocks.proofs.write_found.Goals as goal

pub overflow_add-place : goal.overflow_add-place
overflow_add-place c = search (rules, uid_fits)

pub overflow_add-place-2 : goal.overflow_add-place-2
overflow_add-place-2 c = search (rules, gid_fits)

pub overflow_add-place-3 : goal.overflow_add-place-3
overflow_add-place-3 c = search (rules, namespace_fits)

pub overflow_add-place-4 : goal.overflow_add-place-4
overflow_add-place-4 c = search (rules, pattern_fits)

pub write_keys-requires-clause-to_in_bounds : goal.write_keys-requires-clause-to_in_bounds
write_keys-requires-clause-to_in_bounds c = c.requires.to_in_bounds

pub write_keys-requires-clause-few : goal.write_keys-requires-clause-few
write_keys-requires-clause-few c = pattern_of _ _ _ _ _ _ _ _ c.next_at-i.ensures c.requires.few

pub write_keys-requires-clause-out_value : goal.write_keys-requires-clause-out_value
write_keys-requires-clause-out_value c = c.requires.out_value

pub returns : goal.returns
returns c = let pre = c.requires in
    let uid = c.value_at.ensures in
    search (rules, context_at_lem, pre, uid)
