-- The loop: the end among the fields that are left is the end among all.
use Rattle.std.proofs.Common.{◌≡◌, length}
use Rattle.file_fields.specs.Fields.{maps_end}
use Rattle.file_fields.proofs.file.File.maps_end.Given as goal

abbrev pub invariant-loop-last : goal.invariant-loop-last
invariant-loop-last l = maps_end l.rest (length l.rest) ≡ maps_end l.self.fields.now (length l.self.fields.now)

abbrev pub decreases-loop-last : goal.decreases-loop-last
decreases-loop-last l = length l.rest
