-- The reading is known, and so is its number.
use Rattle.std.proofs.Common.{rules}
use Rattle.export.proofs.Laws.{packs_reading}
use Rattle.export.proofs.dovetenon_page.Goals as goal

pub returns : goal.returns
returns c = search (rules, packs_reading)
