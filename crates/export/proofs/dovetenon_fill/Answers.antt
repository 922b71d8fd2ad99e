-- The filling is known, and so is its number.
use Rattle.std.proofs.Common.{rules}
use Rattle.export.proofs.Laws.{packs_filling}
use Rattle.export.proofs.dovetenon_fill.Goals as goal

pub returns : goal.returns
returns c = search (rules, packs_filling)
