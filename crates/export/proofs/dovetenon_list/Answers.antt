-- The listing is known, and so is its number.
use Rattle.std.proofs.Common.{rules}
use Rattle.export.proofs.Laws.{packs_listing}
use Rattle.export.proofs.dovetenon_list.Goals as goal

pub returns : goal.returns
returns c = search (rules, packs_listing)
