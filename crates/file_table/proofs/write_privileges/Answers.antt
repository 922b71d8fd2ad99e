-- The entries, then their descriptors behind them.
use Rattle.std.proofs.Common.{rules}
use Rattle.file_table.proofs.Whole.{entries_unwritten, descriptors_unwritten, privileges_written, privileges_size_lem}
use Rattle.file_table.proofs.write_privileges.Goals as goal

pub write_entries-entries-requires-clause-out_value : goal.write_entries-entries-requires-clause-out_value
write_entries-entries-requires-clause-out_value c = search (rules, entries_unwritten)

pub write_descriptors-requires-clause-out_value : goal.write_descriptors-requires-clause-out_value
write_descriptors-requires-clause-out_value c = descriptors_unwritten c.args.out.now c.requires.out_len.0
    c.requires.out_len.1 _
    c.requires.bounded _ _
    c.write_entries-entries.ensures

pub returns-clause-out_after : goal.returns-clause-out_after
returns-clause-out_after c = (
  privileges_written c.args.out.now c.requires.out_len.0 c.requires.out_len.1 _ c.requires.bounded
      _ _ c.write_entries-entries.ensures _ _ c.write_descriptors.ensures,
  privileges_size_lem c.args.out.now c.requires.out_len.0
      c.requires.out_len.1 _
      c.requires.bounded _ _
      c.write_entries-entries.ensures _ _ c.write_descriptors.ensures,
)
