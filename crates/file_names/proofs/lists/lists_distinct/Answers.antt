-- The scan over the fields.
use Rattle.std.proofs.Common.{rules}
use Rattle.file_names.proofs.Scanned.{lists_fail, lists_on, lists_done}
use Rattle.file_names.proofs.lists.lists_distinct.Goals as goal

pub returns-then-not-list_distinct : goal.returns-then-not-list_distinct
returns-then-not-list_distinct c = search (rules, lists_fail)

pub loop-i-preserved : goal.loop-i-preserved
loop-i-preserved c = search (rules, lists_on)

pub returns : goal.returns
returns c = search (rules, lists_done)
