-- The loop: the weight of the first k eights.
use Rattle.std.proofs.Common.{◌≡◌, ◌<◌}
use Rattle.file_index.specs.Buckets.{hashes}
use Rattle.file_entries.specs.Weights.{eights}
use Rattle.file_entries.proofs.eights.Given as goal

abbrev pub invariant-loop-k : goal.invariant-loop-k
invariant-loop-k l = (l.h ≡ eights l.v l.k) × (l.h < hashes)
