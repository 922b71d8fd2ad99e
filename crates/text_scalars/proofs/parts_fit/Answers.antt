-- By the kind.
use Rattle.std.proofs.Common.{rules}
use Rattle.text_scalars.proofs.Laws.{parts_known}
use Rattle.text_scalars.proofs.parts_fit.Goals as goal

pub returns-in-Subject : goal.returns-in-Subject
returns-in-Subject c = search (rules, parts_known)

pub returns-in-Object : goal.returns-in-Object
returns-in-Object c = search (rules, parts_known)
