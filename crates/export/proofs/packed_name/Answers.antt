-- A place of no bytes is no name; else its length is how many bytes stand there.
use Rattle.std.proofs.Common.{rules}
use Rattle.export.proofs.Laws.{packs_none, packs_found}
use Rattle.export.proofs.packed_name.Goals as goal

pub returns-then-length-eq0 : goal.returns-then-length-eq0
returns-then-length-eq0 c = search (rules, packs_none)

pub returns : goal.returns
returns c = search (rules, packs_found)
