-- Three words, one behind the other.
use Rattle.std.proofs.Common.{rules}
use Rattle.file_fields.proofs.Places.{reads_are, writes_are}
use Rattle.file_blocks.proofs.Contexts.{counts_written}
use Rattle.file_blocks.proofs.write_counts.Goals as goal

pub descriptors_of-requires : goal.descriptors_of-requires
descriptors_of-requires c = search (rules, reads_are)

pub descriptors_of-requires-2 : goal.descriptors_of-requires-2
descriptors_of-requires-2 c = search (rules, writes_are)

pub returns : goal.returns
returns c = search (rules, counts_written)
