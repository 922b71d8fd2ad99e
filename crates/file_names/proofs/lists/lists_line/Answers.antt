-- The words tell most files; where they say nothing, the scan over the fields.
use Rattle.std.proofs.Common.{rules}
use Rattle.file_names.proofs.Entering.{its_spacing}
use Rattle.file_names.proofs.Scanned.{lists_once, scan_here, scan_on, scan_none}
use Rattle.file_names.proofs.lists.lists_line.Goals as goal

pub returns-then-lists_distinct : goal.returns-then-lists_distinct
returns-then-lists_distinct c = search (rules, lists_once)

pub has_twice-requires : goal.has_twice-requires
has_twice-requires c = search (rules, its_spacing)

pub returns-then-has_twice : goal.returns-then-has_twice
returns-then-has_twice c = search (rules, scan_here)

pub loop-i-preserved : goal.loop-i-preserved
loop-i-preserved c = search (rules, scan_on)

pub returns : goal.returns
returns c = search (rules, scan_none)
