-- The scan over the fields.
use Rattle.std.proofs.Common.{rules}
use Rattle.file_names.proofs.Scanned.{scan_here, scan_on, scan_none}
use Rattle.file_names.proofs.Looked.{unknown_first}
use Rattle.file_names.proofs.unknown.unknown_line.Goals as goal

pub loop-i-init : goal.loop-i-init
loop-i-init c = search (rules, unknown_first)

pub returns-then-is_unknown : goal.returns-then-is_unknown
returns-then-is_unknown c = search (rules, scan_here)

pub loop-i-preserved : goal.loop-i-preserved
loop-i-preserved c = search (rules, scan_on)

pub returns : goal.returns
returns c = search (rules, scan_none)
