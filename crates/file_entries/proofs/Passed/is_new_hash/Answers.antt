-- The loop: the test of the hashes so far.
use Rattle.std.proofs.Common.{rules}
use Rattle.laws.proofs.Tests.{up_to_none}
use Rattle.file_entries.proofs.Twins.{hash_tested, hashes_tested}
use Rattle.file_entries.proofs.Passed.is_new_hash.Goals as goal

pub loop-other-init : goal.loop-other-init
loop-other-init c = search (rules, up_to_none)

pub loop-other-preserved : goal.loop-other-preserved
loop-other-preserved c = search (rules, hash_tested)

pub returns : goal.returns
returns c = search (rules, hashes_tested)
