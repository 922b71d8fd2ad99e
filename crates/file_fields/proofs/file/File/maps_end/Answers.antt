-- The loop: the end among the fields that are left is the end among all.
use Rattle.std.proofs.Common.{rules}
use Rattle.file_fields.proofs.Maps.{end_here, end_on, end_none, end_less}
use Rattle.file_fields.proofs.file.File.maps_end.Goals as goal

pub returns-then-place-lt-PRINCIPAL : goal.returns-then-place-lt-PRINCIPAL
returns-then-place-lt-PRINCIPAL c = search (rules, end_here)

pub loop-last-smaller : goal.loop-last-smaller
loop-last-smaller c = search (rules, end_less)

pub loop-last-preserved : goal.loop-last-preserved
loop-last-preserved c = search (rules, end_on)

pub returns : goal.returns
returns c = search (rules, end_none)
