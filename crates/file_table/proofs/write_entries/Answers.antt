-- The loop: k entries are written, and those that are left are to come.
use Rattle.std.proofs.Common.{rules}
use Rattle.file_fields.proofs.Left.{left_entries, left_more, left_none}
use Rattle.file_table.proofs.Entered.{entries_begin, entry_end, entry_unwritten, entry_reads, entry_writes, entries_again, entries_length, entries_all}
use Rattle.file_table.proofs.Stepping.{its_file, file_stays, its_words, its_subjects, subjects_apart, entry_short, entry_sized, entry_told}
use Rattle.file_table.proofs.write_entries.Goals as goal

pub loop-entry-init : goal.loop-entry-init
loop-entry-init c = search (rules, left_entries, entries_begin)

pub slice_bounds-write_entry-end : goal.slice_bounds-write_entry-end
slice_bounds-write_entry-end c = let more = left_more _ _ _ c.in-Some.ensures.steps in search (rules, more, entry_end)

pub write_entry-requires-clause-worded : goal.write_entry-requires-clause-worded
write_entry-requires-clause-worded c = search (rules, its_file, its_words)

pub write_entry-requires-clause-mapped : goal.write_entry-requires-clause-mapped
write_entry-requires-clause-mapped c = search (rules, its_file, its_subjects)

pub write_entry-requires-clause-distinct : goal.write_entry-requires-clause-distinct
write_entry-requires-clause-distinct c = search (rules, its_file, subjects_apart)

pub write_entry-requires-clause-few_elements : goal.write_entry-requires-clause-few_elements
write_entry-requires-clause-few_elements c = search (rules, its_file, entry_short)

pub write_entry-requires-clause-few_descriptors : goal.write_entry-requires-clause-few_descriptors
write_entry-requires-clause-few_descriptors c = let more = left_more _ _ _ c.in-Some.ensures.steps in (search (rules, more, entry_reads), search (rules, more, entry_writes))

pub write_entry-requires-clause-out_value : goal.write_entry-requires-clause-out_value
write_entry-requires-clause-out_value c = let more = left_more _ _ _ c.in-Some.ensures.steps in search (rules, more, entry_unwritten)

pub loop-entry-preserved : goal.loop-entry-preserved
loop-entry-preserved c = let next = c.in-Some.ensures.steps in
    let inv = c.loop-entry.invariant in
    let same = its_file c.args.file c.loop-entry.entry-iterator c.in-Some.entry c.next.new.self next inv.2 in (
      search rules,
      search rules,
      file_stays c.args.file c.loop-entry.entry-iterator c.in-Some.entry c.next.new.self next inv.2,
      entries_again _ _ _ _ inv.3 _ _ (left_more _ _ _ next) c.requires.bounded _ (entry_told c.args.file c.in-Some.entry same _ c.write_entry.ensures)
          (entry_sized c.args.file c.args.words c.requires.ready.0 c.in-Some.entry same),
    )

pub shape_of-out : goal.shape_of-out
shape_of-out c = search (rules, entries_length)

pub returns : goal.returns
returns c = entries_all _ _ _ _ c.loop-entry.invariant.3 _ c.requires.out_value (left_none c.loop-entry.entry-iterator c.in-None.ensures.steps)
