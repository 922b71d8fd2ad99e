-- Each case packs to its number.
use Rattle.std.proofs.Common.{rules}
use Rattle.export_packed.proofs.Laws.{packs_unfilled, packs_written}
use Rattle.export_packed.proofs.packed_filling.Goals as goal

pub returns-in-Unfilled : goal.returns-in-Unfilled
returns-in-Unfilled c = search (rules, packs_unfilled)

pub returns-in-Written : goal.returns-in-Written
returns-in-Written c = search (rules, packs_written)
