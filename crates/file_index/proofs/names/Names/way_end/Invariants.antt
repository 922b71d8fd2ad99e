-- The loop: the place found from word w and turn d on is the place found from the head of the bucket on.
use Rattle.std.proofs.Common.{◌≡◌, ◌-◌, ◌<◌, ◌≤◌}
use Rattle.file_index.specs.Words.{name_at}
use Rattle.file_index.specs.Buckets.{way_end_from, way_end}
use Rattle.file_index.proofs.names.Names.way_end.Given as goal

abbrev pub invariant-loop-last : goal.invariant-loop-last
invariant-loop-last l = (way_end_from l.t l.self.index.now l.self.count l.h l.name (l.self.count - l.d) l.d l.last l.w ≡ way_end l.t l.self.index.now l.self.count l.h l.name) ×
    (l.d ≤ l.last) × (l.last ≤ l.self.count) × (l.w < name_at l.last)

abbrev pub decreases-loop-last : goal.decreases-loop-last
decreases-loop-last l = l.self.count - l.d
