-- The loop: the things of the fields before number i are written.
use Rattle.std.proofs.Common.{length}
use Rattle.file_listing.proofs.Fields.{ThingsWritten}
use Rattle.file_listing.proofs.put_things.Given as goal

abbrev pub invariant-loop-i : goal.invariant-loop-i
invariant-loop-i l = ThingsWritten l.file.text.now l.file.fields.now (length l.file.fields.now) l.i l.initial.out l.out l.end
